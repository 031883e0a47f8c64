use Rattle.schema.proofs.Pairs.{all_taken}
use Rattle.schema.specs.Table.{names_at}
use Rattle.markup.specs.View.{OfPairs}
use Rattle.laws.specs.Lists.{all}
use lib.ListN.{length, drop}
use mathlib.Core.List.{List}
use mathlib.Core.Bool.{Bool}
use Prim.Native.Nat.{ℕ, ◌-◌}
use Rattle.schema.proofs.table.Tables.all_known.Given as goal

abbrev pub invariant-loop-a : goal.invariant-loop-a
invariant-loop-a l = (ranges : List ℕ) (b : Bool) → OfPairs (all (all_taken l.free (names_at l.self.table.now l.self.pool.now ranges l.rows.first l.rows.n))) (drop l.here.at l.s) b → OfPairs (all (all_taken l.free (names_at l.self.table.now l.self.pool.now ranges l.rows.first l.rows.n))) (drop l.fn.after l.s) b

abbrev pub decreases-loop-a : goal.decreases-loop-a
decreases-loop-a l = length l.s - l.here.at
