use Rattle.days.proofs.Firsts.{firsts, first_entry}
use Rattle.days.proofs.table.make.Goals as goal

pub invariant_of-result : goal.invariant_of-result
unfolding firsts
invariant_of-result c = record { firsts_hold = λ k h. first_entry k h }
