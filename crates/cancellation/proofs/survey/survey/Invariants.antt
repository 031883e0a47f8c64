use Rattle.cancellation.proofs.SurveyLaws.{Surveying}
use Rattle.cancellation.proofs.survey.survey.Given as goal

abbrev pub invariant-loop-i : goal.invariant-loop-i
invariant-loop-i l = Surveying l.choice.reg.now l.choice.first l.choice.last l.choice.lo l.choice.hi l.s l.i
