use Rattle.cancellation.proofs.EventsPut.{Putting}
use Rattle.cancellation.proofs.records.put_events.Given as goal

abbrev pub invariant-loop-row : goal.invariant-loop-row
invariant-loop-row l = Putting l.choice.reg.now l.choice.first l.choice.last l.choice.lo l.choice.hi l.at l.initial.out l.out l.row l.next l.n
