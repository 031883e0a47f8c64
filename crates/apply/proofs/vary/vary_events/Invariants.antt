use mathlib.Core.Path.{◌≡◌}
use lib.ListN.{length}
use Rattle.register.specs.Search.{probe_key}
use Rattle.home_care.specs.Row.{row_bytes, key_bits}
use Rattle.apply.proofs.Varying.{OverFrom}
use Rattle.apply.proofs.vary.vary_events.Given as goal

abbrev pub invariant-loop-i : goal.invariant-loop-i
invariant-loop-i l = (length l.reg ≡ length l.initial.reg) × OverFrom (probe_key row_bytes key_bits l.probe.row.now) l.said.evs.now l.said.kept.now l.i l.initial.reg l.reg
