use Rattle.evaluation.proofs.LatestRow.{Passed}
use Rattle.evaluation.proofs.in_force.latest.Given as goal

abbrev pub invariant-loop-i : goal.invariant-loop-i
invariant-loop-i l = Passed l.reg l.day l.lo l.hi l.i
