use Rattle.register.specs.Search.{probe_key}
use Rattle.home_care.specs.Row.{row_bytes, key_bits}
use Rattle.apply.proofs.Emptying.{Emptying}
use Rattle.apply.proofs.cancel.cancel_events.Given as goal

abbrev pub invariant-loop-j : goal.invariant-loop-j
invariant-loop-j l = Emptying l.initial.reg (probe_key row_bytes key_bits l.probe) l.evs l.c l.n l.lo l.reg l.i l.j l.bound
