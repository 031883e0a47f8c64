use Rattle.widening.proofs.Laying.{RowsLaid}
use Rattle.widening.proofs.convert.lay.Given as goal

abbrev pub invariant-loop-i : goal.invariant-loop-i
invariant-loop-i l = RowsLaid l.old l.new l.i
