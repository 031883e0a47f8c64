use Rattle.schema.proofs.Pairs.{attr_after}
use Rattle.schema.specs.View.{attr_at}
use Rattle.schema.specs.Shape.{attr_fits}
use Rattle.markup.specs.View.{OfPairs}
use lib.ListN.{length, drop}
use mathlib.Core.Bool.{Bool}
use Prim.Native.Nat.{◌-◌}
use Rattle.schema.proofs.table.Tables.attr_fits.Given as goal

abbrev pub invariant-loop-a : goal.invariant-loop-a
invariant-loop-a l = (b : Bool) → OfPairs (attr_after (attr_at l.self.table.now l.self.pool.now l.self.ranges.now l.row) l.seen) (drop l.here.at l.s) b → OfPairs (λ ps. attr_fits ps (attr_at l.self.table.now l.self.pool.now l.self.ranges.now l.row)) (drop l.fn.after l.s) b

abbrev pub decreases-loop-a : goal.decreases-loop-a
decreases-loop-a l = length l.s - l.here.at
