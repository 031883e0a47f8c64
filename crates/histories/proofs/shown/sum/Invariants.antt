-- The rest stays below the prime.
use Rattle.std.proofs.Common.{◌<◌}
use Rattle.histories.proofs.shown.sum.Given as goal

abbrev pub invariant-loop-b : goal.invariant-loop-b
invariant-loop-b l = l.s < 72057594037927931
