use Rattle.register.specs.Moves.{on_part}
use Rattle.apply.proofs.case.insert_case.Goals as goal

pub returns : goal.returns
unfolding on_part
returns c = rw c.open_case.ensures
