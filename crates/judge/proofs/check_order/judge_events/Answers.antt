use mathlib.Core.List.{map}
use mathlib.Core.Path.{ap}
use Rattle.std.proofs.Common.{arith}
use Rattle.std.proofs.lemmas.Grind.{common_steps}
use Rattle.rows.proofs.Bytes.{fit_of}
use Rattle.home_care.specs.Row.{event_number_in}
use Rattle.judge.specs.View.{context_in}
use Rattle.judge.proofs.InOrder.{answer_events}
use Rattle.judge.proofs.Told.{events_told}
use Rattle.judge.proofs.check_order.judge_events.Goals as goal

pub returns-then-is_empty : goal.returns-then-is_empty
unfolding answer_events
returns-then-is_empty c =
    let a = c.args in
    events_told a.reg.now (context_in a.l) a.h.now.tipo a.h.now.taken a.h.now.probe (fit_of 8 a.reg.now (λ i. (c.type_inv.reg i).fits)) a.evs.now a.bad a.zero _ (λ sound. grind (arith, common_steps))

pub returns-then-any_out_of_quarter : goal.returns-then-any_out_of_quarter
unfolding answer_events
returns-then-any_out_of_quarter c =
    let a = c.args in
    events_told a.reg.now (context_in a.l) a.h.now.tipo a.h.now.taken a.h.now.probe (fit_of 8 a.reg.now (λ i. (c.type_inv.reg i).fits)) a.evs.now a.bad a.zero _ (λ sound. grind (arith, common_steps))

pub returns-then-bad : goal.returns-then-bad
unfolding answer_events
returns-then-bad c =
    let a = c.args in
    events_told a.reg.now (context_in a.l) a.h.now.tipo a.h.now.taken a.h.now.probe (fit_of 8 a.reg.now (λ i. (c.type_inv.reg i).fits)) a.evs.now a.bad a.zero _ (λ sound. grind (arith, common_steps))

pub returns-then-zero : goal.returns-then-zero
unfolding answer_events
returns-then-zero c =
    let a = c.args in
    events_told a.reg.now (context_in a.l) a.h.now.tipo a.h.now.taken a.h.now.probe (fit_of 8 a.reg.now (λ i. (c.type_inv.reg i).fits)) a.evs.now a.bad a.zero _ (λ sound. grind (arith, common_steps))

pub returns-then-one_key_twice : goal.returns-then-one_key_twice
unfolding answer_events
returns-then-one_key_twice c =
    let a = c.args in
    events_told a.reg.now (context_in a.l) a.h.now.tipo a.h.now.taken a.h.now.probe (fit_of 8 a.reg.now (λ i. (c.type_inv.reg i).fits)) a.evs.now a.bad a.zero _ (λ sound. grind (arith, common_steps))

pub returns-then-any_ends_first : goal.returns-then-any_ends_first
unfolding answer_events
returns-then-any_ends_first c =
    let a = c.args in
    events_told a.reg.now (context_in a.l) a.h.now.tipo a.h.now.taken a.h.now.probe (fit_of 8 a.reg.now (λ i. (c.type_inv.reg i).fits)) a.evs.now a.bad a.zero _ (λ sound. grind (arith, common_steps))

pub returns-then-not-case_stands : goal.returns-then-not-case_stands
unfolding answer_events
returns-then-not-case_stands c =
    let a = c.args in
    events_told a.reg.now (context_in a.l) a.h.now.tipo a.h.now.taken a.h.now.probe (fit_of 8 a.reg.now (λ i. (c.type_inv.reg i).fits)) a.evs.now a.bad a.zero _ (λ sound. let s = c.case_stands.ensures sound in grind (arith, common_steps))

pub returns : goal.returns
unfolding answer_events
returns c =
    let a = c.args in
    events_told a.reg.now (context_in a.l) a.h.now.tipo a.h.now.taken a.h.now.probe (fit_of 8 a.reg.now (λ i. (c.type_inv.reg i).fits)) a.evs.now a.bad a.zero _ (λ sound. let s = c.case_stands.ensures sound in
    let t = c.against_standing.ensures (c.case_events-span.ensures.settled sound) in
    let u = ap (map event_number_in) (c.case_events-span.ensures.are sound) in grind (arith, common_steps))
