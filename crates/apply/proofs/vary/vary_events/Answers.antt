use Prim.Native.Nat.{◌+◌, ◌-◌}
use mathlib.Core.Path.{refl, ◌∙◌}
use lib.ListN.{length}
use borrow.Author.Rules.{rules}
use native.Mathlib.Omega.{arith}
use Rattle.register.specs.Search.{probe_key}
use Rattle.register.proofs.Stores.{room_end}
use Rattle.home_care.specs.Row.{row_bytes, key_bits, event_bits, evaluation_bits}
use Rattle.apply.proofs.RowsPacked.{small_at}
use Rattle.apply.proofs.Varying.{short, none_yet, all_over, misfits, one_over, never_past}
use Rattle.apply.proofs.vary.vary_events.Goals as goal

-- The invariant: the register has the events from place i on over those with their keys.

pub returns-then-reg-lt4 : goal.returns-then-reg-lt4
returns-then-reg-lt4 c =
    let a = c.args in
    short (probe_key row_bytes key_bits a.probe.now.row.now) a.said.now.evs.now a.said.now.kept.now a.reg.now c.if-reg-lt4.true

pub returns-then-not-room_for : goal.returns-then-not-room_for
returns-then-not-room_for c =
    let a = c.args in
    misfits (probe_key row_bytes key_bits a.probe.now.row.now) a.said.now.evs.now a.said.now.kept.now a.reg.now c.count-c.result c.count.result c.count-c.ensures.0 c.count.ensures.0 c.room_for.result c.room_for.ensures (c.if-not-room_for.true)

pub case_range-span-requires : goal.case_range-span-requires
case_range-span-requires c =
    (search rules, room_end row_bytes (c.count-c.result + c.count.result) (length c.args.reg.now) c.room_for.result c.room_for.ensures (c.if-not-room_for.false) (c.count-c.result + c.count.result) (omega arith), search rules, search rules)

pub loop-i-init : goal.loop-i-init
loop-i-init c =
    let a = c.args in
    (refl, none_yet (probe_key row_bytes key_bits a.probe.now.row.now) a.said.now.evs.now a.said.now.kept.now a.reg.now)

pub place_event-r-requires : goal.place_event-r-requires
place_event-r-requires c =
    let f = room_end row_bytes (c.count-c.result + c.count.result) (length c.args.reg.now) c.room_for.result c.room_for.ensures (c.if-not-room_for.false) c.case_range-span.result.hi c.case_range-span.ensures.high in
    (c.case_range-span.ensures.mid, omega (arith, c.loop-i.invariant.0))

pub set_row-requires : goal.set_row-requires
set_row-requires c =
    let a = c.args in
    let v = c.loop-i in
    let f = room_end row_bytes (c.count-c.result + c.count.result) (length a.reg.now) c.room_for.result c.room_for.ensures (c.if-not-room_for.false) (c.place_event-r.result + 1) (omega (arith, c.case_range-span.ensures.high)) in
    (omega (arith, v.invariant.0), small_at event_bits a.said.now.evs.now a.said.now.events_fit (v.i - 1) (omega arith), small_at evaluation_bits a.said.now.kept.now a.said.now.evaluations_fit (v.i - 1) (omega (arith, a.said.now.beside)))

pub loop-i-preserved-then-r-hi : goal.loop-i-preserved-then-r-hi
loop-i-preserved-then-r-hi c =
    let a = c.args in
    let v = c.loop-i in
    let g = c.case_range-span in (
      c.set_row.auto.reg ∙ v.invariant.0,
      one_over (probe_key row_bytes key_bits a.probe.now.row.now) a.said.now.evs.now a.said.now.kept.now a.reg.now c.count-c.result c.count.result c.count-c.ensures.0 c.count.ensures.0 a.probe.now.keyed.small g.result.lo g.result.hi g.ensures v.reg v.i (omega arith) (omega arith) (small_at event_bits a.said.now.evs.now a.said.now.events_fit (v.i - 1) (omega arith)) (small_at evaluation_bits a.said.now.kept.now a.said.now.evaluations_fit (v.i - 1) (omega (arith, a.said.now.beside))) v.invariant.1 c.place_event-r.result c.place_event-r.ensures c.set_row.new.reg c.set_row.auto.reg c.set_row.ensures,
    )

pub loop-i-preserved : goal.loop-i-preserved
loop-i-preserved c =
    let a = c.args in
    let v = c.loop-i in
    let g = c.case_range-span in
    (v.invariant.0, never_past (probe_key row_bytes key_bits a.probe.now.row.now) a.said.now.evs.now a.said.now.kept.now a.reg.now c.count-c.result c.count.result c.count-c.ensures.0 c.count.ensures.0 a.probe.now.keyed.small g.result.lo g.result.hi g.ensures v.reg v.i (omega arith) (omega arith) (small_at event_bits a.said.now.evs.now a.said.now.events_fit (v.i - 1) (omega arith)) (small_at evaluation_bits a.said.now.kept.now a.said.now.evaluations_fit (v.i - 1) (omega (arith, a.said.now.beside))) v.invariant.1 c.place_event-r.result c.place_event-r.ensures c.if-r-hi.false)

pub returns : goal.returns
returns c =
    let a = c.args in
    let v = c.loop-i in
    all_over (probe_key row_bytes key_bits a.probe.now.row.now) a.said.now.evs.now a.said.now.kept.now a.reg.now v.i v.reg (omega arith) v.invariant.1
