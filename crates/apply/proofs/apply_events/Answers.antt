use mathlib.Core.Path.{sym, ◌∙◌}
use Rattle.register.specs.Search.{probe_key}
use Rattle.home_care.specs.Row.{row_bytes, key_bits}
use Rattle.home_care.specs.Record.{type_of}
use Rattle.apply.proofs.Records.{done_in, done_out, done_over, events_applied}
use Rattle.apply.proofs.apply_events.Goals as goal

pub returns-then-inserts : goal.returns-then-inserts
returns-then-inserts c =
    let a = c.args in
    let b = c.insert_events.new.reg in
    let k = probe_key row_bytes key_bits a.probe.now in
    (events_applied a.reg.now b a.tipo k a.said.now.evs.now a.said.now.kept.now a.said.now.evaluations_fit (done_in k a.said.now.evs.now a.said.now.kept.now a.reg.now b (type_of a.tipo) (sym c.inserts.ensures ∙ c.if-inserts.true) (rw c.key_in.ensures at c.insert_events.ensures)), c.insert_events.auto.reg)

pub returns-then-cancels : goal.returns-then-cancels
returns-then-cancels c =
    let a = c.args in
    let b = c.cancel_events.new.reg in
    let k = probe_key row_bytes key_bits a.probe.now in
    (events_applied a.reg.now b a.tipo k a.said.now.evs.now a.said.now.kept.now a.said.now.evaluations_fit (done_out k a.said.now.evs.now a.said.now.kept.now a.reg.now b (type_of a.tipo) (sym c.cancels.ensures ∙ c.if-cancels.true) c.cancel_events.ensures), c.cancel_events.auto.reg)

pub returns : goal.returns
returns c =
    let a = c.args in
    let b = c.vary_events.new.reg in
    let k = probe_key row_bytes key_bits a.probe.now in
    (events_applied a.reg.now b a.tipo k a.said.now.evs.now a.said.now.kept.now a.said.now.evaluations_fit (done_over k a.said.now.evs.now a.said.now.kept.now a.reg.now b (type_of a.tipo) (sym c.inserts.ensures ∙ c.if-inserts.false) (sym c.cancels.ensures ∙ c.if-cancels.false) (rw c.key_in-2.ensures at c.vary_events.ensures)), c.vary_events.auto.reg)
