use Prim.Native.Nat.{◌≤◌, ◌-◌}
use lib.ListN.{length, drop}
use Rattle.laws.proofs.Reach.{Reach}
use Rattle.markup.specs.NamesAndValues.Read.{refused}
use Rattle.markup.specs.Tags.{attributes_step, attributes}
use Rattle.markup.specs.View.{ending_of}
use Rattle.markup.proofs.Cursor.attributes.Given as goal

abbrev pub invariant-loop-attribute : goal.invariant-loop-attribute
invariant-loop-attribute l = (l.fn.self.at ≤ l.here.at) × Reach refused attributes_step ending_of (ending_of (attributes (drop l.fn.self.at l.s))) (drop l.here.at l.s)

abbrev pub decreases-loop-attribute : goal.decreases-loop-attribute
decreases-loop-attribute l = length l.s - l.here.at
