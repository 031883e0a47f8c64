use Prim.Native.Nat.{◌≤◌, ◌-◌}
use lib.ListN.{length, drop}
use Rattle.laws.proofs.Reach.{Reach}
use Rattle.markup.specs.NamesAndValues.Read.{refused}
use Rattle.markup.specs.Document.{misc_step, misc}
use Rattle.markup.proofs.Cursor.misc.Given as goal

abbrev pub invariant-loop-next : goal.invariant-loop-next
invariant-loop-next l = (l.fn.self.at ≤ l.here.at) × Reach refused misc_step (λ r. r) (misc (drop l.fn.self.at l.s)) (drop l.here.at l.s) × (l.here.at - l.fn.self.at ≤ length l.s - l.fn.self.at)

abbrev pub decreases-loop-next : goal.decreases-loop-next
decreases-loop-next l = length l.s - l.here.at
