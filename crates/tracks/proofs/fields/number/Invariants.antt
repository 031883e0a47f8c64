use Rattle.days.proofs.Digits.{Left}
use Rattle.tracks.proofs.fields.number.Given as goal

abbrev pub invariant-loop-b : goal.invariant-loop-b
invariant-loop-b l = Left l.x l.n l.b-index
