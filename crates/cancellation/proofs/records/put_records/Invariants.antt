use Rattle.cancellation.proofs.RecordsPut.{Recording}
use Rattle.cancellation.specs.View.{texts_of}
use Rattle.cancellation.proofs.records.put_records.Given as goal

abbrev pub invariant-loop : goal.invariant-loop
invariant-loop l = Recording l.choice.reg.now l.choice.first l.choice.last l.choice.lo l.choice.hi (texts_of l.texts) l.records l.at l.initial.out l.out l.done.row l.done.at l.counter
