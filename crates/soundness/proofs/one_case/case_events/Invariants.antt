use Rattle.soundness.proofs.CaseWalk.{Onward}
use Rattle.soundness.proofs.one_case.case_events.Given as goal

abbrev pub invariant-loop-k : goal.invariant-loop-k
invariant-loop-k l = Onward l.w l.reg l.i l.j l.rows l.taken l.b.least l.b.prev l.b.latest l.k
