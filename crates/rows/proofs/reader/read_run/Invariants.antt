use Rattle.rows.proofs.Runs.{Got}
use Rattle.rows.proofs.reader.read_run.Given as goal

abbrev pub invariant-loop-i : goal.invariant-loop-i
invariant-loop-i l = Got l.row l.at l.w l.initial.out l.out l.i
