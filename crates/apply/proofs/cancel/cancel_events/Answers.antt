use Prim.Native.Nat.{◌+◌, ◌*◌, ◌≤◌}
use mathlib.Core.Path.{◌≡◌, ap, ◌∙◌}
use lib.ListN.{length}
use Rattle.register.specs.Moves.{removed_rows}
use borrow.Author.Rules.{rules}
use native.Mathlib.Omega.{arith}
use Rattle.register.specs.Search.{probe_key}
use Rattle.register.proofs.Stores.{room_few, room_end}
use Rattle.home_care.specs.Row.{row_bytes, key_bits}
use Rattle.apply.proofs.Filling.{standing}
use Rattle.apply.proofs.Emptying.{no_header, misfit, emptying_start, none_left, not_there, one_fewer, all_emptied}
use Rattle.register.specs.RoomAndEmptying.{most_rows}
use Rattle.apply.proofs.cancel.cancel_events.Goals as goal

-- The invariant: the register has a gap of the rows that are out, and without it the rows of the state that they have left.

pub returns-then-reg-lt4 : goal.returns-then-reg-lt4
returns-then-reg-lt4 c = no_header (probe_key row_bytes key_bits c.args.probe.now) c.args.evs.now c.args.reg.now c.if-reg-lt4.true

pub returns-then-not-room_for : goal.returns-then-not-room_for
returns-then-not-room_for c =
    misfit (probe_key row_bytes key_bits c.args.probe.now) c.args.evs.now c.args.reg.now c.count-c.result c.count.result c.count-c.ensures.0 c.count.ensures.0 c.room_for.result c.room_for.ensures (c.if-not-room_for.true)

pub case_range-span-requires : goal.case_range-span-requires
case_range-span-requires c =
    (search rules, room_end row_bytes (c.count-c.result + c.count.result) (length c.args.reg.now) c.room_for.result c.room_for.ensures (c.if-not-room_for.false) (c.count-c.result + c.count.result) (omega arith), search rules, search rules)

pub loop-j-init : goal.loop-j-init
loop-j-init c =
    emptying_start (probe_key row_bytes key_bits c.args.probe.now) c.args.evs.now c.args.reg.now c.count-c.result c.count.result c.count-c.ensures.0 c.count.ensures.0 c.case_range-span.result.lo c.case_range-span.result.hi c.requires.1 c.case_range-span.ensures (room_end row_bytes (c.count-c.result + c.count.result) (length c.args.reg.now) c.room_for.result c.room_for.ensures (c.if-not-room_for.false) (c.count-c.result + c.count.result) (omega arith))

pub returns-in_default : goal.returns-in_default
returns-in_default c =
    none_left c.args.reg.now (probe_key row_bytes key_bits c.args.probe.now) c.args.evs.now c.count-c.result (c.count-c.result + c.count.result) c.case_range-span.result.lo c.loop-j.reg c.loop-j.i c.loop-j.j c.loop-j.bound c.loop-j.invariant (λ s st. (standing c.args.reg.now c.count-c.result c.count.result c.count-c.ensures.0 c.count.ensures.0 s st).1) c.requires.1 (omega arith) (length c.args.evs.now) c.in_default.ensures (omega arith)

pub bounds-evs-p : goal.bounds-evs-p
bounds-evs-p c = c.in-Some.ensures.0

pub place_event-r-requires : goal.place_event-r-requires
place_event-r-requires c =
    let v = c.loop-j.invariant in
    let e : 4 + row_bytes * (c.count-c.result + c.count.result) ≤ length c.args.reg.now = room_end row_bytes (c.count-c.result + c.count.result) (length c.args.reg.now) c.room_for.result c.room_for.ensures (c.if-not-room_for.false) (c.count-c.result + c.count.result) (omega arith) in
    (v.low, omega (arith, v.high, v.len))

pub returns-then-i-r : goal.returns-then-i-r
returns-then-i-r c =
    not_there c.args.reg.now (probe_key row_bytes key_bits c.args.probe.now) c.args.evs.now c.count-c.result (c.count-c.result + c.count.result) c.case_range-span.result.lo c.loop-j.reg c.loop-j.i c.loop-j.j c.loop-j.bound c.loop-j.invariant (λ s st. (standing c.args.reg.now c.count-c.result c.count.result c.count-c.ensures.0 c.count.ensures.0 s st).1) c.requires.1 c.case_range-span.ensures.low c.in-Some.p c.in-Some.ensures.1 c.in-Some.ensures.0 c.place_event-r.result c.place_event-r.ensures c.if-i-r.true

pub widen-requires : goal.widen-requires
widen-requires c =
    let v = c.loop-j.invariant in
    let f : c.count-c.result + c.count.result ≤ most_rows = room_few row_bytes (c.count-c.result + c.count.result) (length c.args.reg.now) c.room_for.result c.room_for.ensures (c.if-not-room_for.false) in
    let e : 4 + row_bytes * (c.count-c.result + c.count.result) ≤ length c.args.reg.now = room_end row_bytes (c.count-c.result + c.count.result) (length c.args.reg.now) c.room_for.result c.room_for.ensures (c.if-not-room_for.false) (c.count-c.result + c.count.result) (omega arith) in
    (c.if-i-r.false, omega (arith, v.high), omega (arith, v.high, v.len))

pub loop-j-preserved : goal.loop-j-preserved
loop-j-preserved c =
    one_fewer c.args.reg.now (probe_key row_bytes key_bits c.args.probe.now) c.args.evs.now c.count-c.result (c.count-c.result + c.count.result) c.case_range-span.result.lo c.loop-j.reg c.loop-j.i c.loop-j.j c.loop-j.bound c.loop-j.invariant (λ s st. (standing c.args.reg.now c.count-c.result c.count.result c.count-c.ensures.0 c.count.ensures.0 s st).1) c.requires.1 c.case_range-span.ensures.low c.in-Some.p c.in-Some.ensures.1 c.in-Some.ensures.0 c.place_event-r.result c.place_event-r.ensures (omega arith) c.if-i-r.false c.widen.new.reg c.set_count.new.reg c.widen.auto.reg c.set_count.auto.reg c.widen.ensures c.set_count.ensures _ c.event_key_of-bound.ensures.0

pub remove_rows-requires : goal.remove_rows-requires
remove_rows-requires c =
    let v = c.loop-j.invariant in
    let f : c.count-c.result + c.count.result ≤ most_rows = room_few row_bytes (c.count-c.result + c.count.result) (length c.args.reg.now) c.room_for.result c.room_for.ensures (c.if-not-room_for.false) in
    let e : 4 + row_bytes * (c.count-c.result + c.count.result) ≤ length c.args.reg.now = room_end row_bytes (c.count-c.result + c.count.result) (length c.args.reg.now) c.room_for.result c.room_for.ensures (c.if-not-room_for.false) (c.count-c.result + c.count.result) (omega arith) in
    (omega (arith, v.high, v.few), omega (arith, v.len))

pub returns : goal.returns
returns c =
    let j = c.loop-j.j in
    let k = length c.args.evs.now in
    let e : k ≡ j = omega arith in
    all_emptied c.args.reg.now (probe_key row_bytes key_bits c.args.probe.now) c.args.evs.now c.count-c.result (c.count-c.result + c.count.result) c.case_range-span.result.lo c.loop-j.reg c.loop-j.i j c.loop-j.bound c.loop-j.invariant (λ s st. (standing c.args.reg.now c.count-c.result c.count.result c.count-c.ensures.0 c.count.ensures.0 s st).1) c.requires.1 (omega arith) c.remove_rows.new.reg (c.remove_rows.ensures ∙ ap (λ g. removed_rows row_bytes c.loop-j.i g (c.count-c.result + c.count.result) c.loop-j.reg) e)
