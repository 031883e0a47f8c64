use Prim.Native.Nat.{◌+◌}
use mathlib.Core.Path.{refl, sym, ap, ◌∙◌}
use lib.ListN.{length}
use native.Mathlib.Omega.{arith}
use borrow.Author.Rules.{rules}
use Rattle.register.specs.Search.{probe_key}
use Rattle.register.specs.Moves.{with_count}
use Rattle.register.proofs.Keys.{stands_in}
use Rattle.register.proofs.Stores.{room_few, room_end}
use Rattle.home_care.specs.Row.{row_bytes, key_bits}
use Rattle.home_care.specs.Fits.{case_with}
use Rattle.apply.proofs.CaseBytes.{case_short, case_misfits, case_over, case_full, case_new}
use Rattle.apply.proofs.case.put_case.Goals as goal

pub returns-then-reg-lt4 : goal.returns-then-reg-lt4
returns-then-reg-lt4 c =
    let a = c.args in
    case_short (probe_key row_bytes key_bits a.probe.now.row.now) (case_with a.f.now.birth a.f.now.prevalente.now a.f.now.scales.now) a.reg.now c.if-reg-lt4.true

pub returns-then-not-room_for : goal.returns-then-not-room_for
returns-then-not-room_for c =
    let a = c.args in
    case_misfits (probe_key row_bytes key_bits a.probe.now.row.now) (case_with a.f.now.birth a.f.now.prevalente.now a.f.now.scales.now) c.args.probe.now.keyed.small c.requires a.probe.now.row.now refl a.reg.now c.count-c.result c.count.result c.count-c.ensures.0 c.count.ensures.0 c.room_for.result c.room_for.ensures (c.if-not-room_for.true)

pub place-i-requires : goal.place-i-requires
place-i-requires c =
    (search rules, room_end row_bytes (c.count-c.result + c.count.result) (length c.args.reg.now) c.room_for.result c.room_for.ensures (c.if-not-room_for.false) c.count-c.result (omega arith), c.args.probe.now.keyed.wide, search rules, search rules)

pub stands-requires : goal.stands-requires
stands-requires c =
    (room_end row_bytes (c.count-c.result + c.count.result) (length c.args.reg.now) c.room_for.result c.room_for.ensures (c.if-not-room_for.false) c.count-c.result (omega arith), c.args.probe.now.keyed.wide, search rules)

pub set_case-requires : goal.set_case-requires
set_case-requires c =
    let a = c.args in
    let h = stands_in row_bytes key_bits c.count-c.result a.probe.now.row.now a.reg.now c.place-i.result (sym c.stands.ensures ∙ c.if-stands.true) in
    (room_end row_bytes (c.count-c.result + c.count.result) (length a.reg.now) c.room_for.result c.room_for.ensures (c.if-not-room_for.false) (c.place-i.result + 1) (omega arith), c.requires)

pub returns-then-stands : goal.returns-then-stands
returns-then-stands c =
    let a = c.args in
    case_over (probe_key row_bytes key_bits a.probe.now.row.now) (case_with a.f.now.birth a.f.now.prevalente.now a.f.now.scales.now) c.args.probe.now.keyed.small c.requires a.probe.now.row.now refl a.reg.now c.count-c.result c.count.result c.count-c.ensures.0 c.count.ensures.0 c.place-i.result c.place-i.ensures c.stands.result c.stands.ensures c.if-stands.true c.set_case.new.reg c.set_case.auto.reg c.set_case.ensures

pub returns-then-not-room_for-2 : goal.returns-then-not-room_for-2
returns-then-not-room_for-2 c =
    let a = c.args in
    case_full (probe_key row_bytes key_bits a.probe.now.row.now) (case_with a.f.now.birth a.f.now.prevalente.now a.f.now.scales.now) c.args.probe.now.keyed.small c.requires a.probe.now.row.now refl a.reg.now c.count-c.result c.count.result c.count-c.ensures.0 c.count.ensures.0 c.place-i.result c.place-i.ensures c.stands.result c.stands.ensures c.if-stands.false c.room_for-2.result c.room_for-2.ensures (c.if-not-room_for-2.true)

pub insert_case-requires : goal.insert_case-requires
insert_case-requires c =
    let a = c.args in
    let n = c.count-c.result + c.count.result in
    let few = room_few row_bytes (n + 1) (length a.reg.now) c.room_for-2.result c.room_for-2.ensures (c.if-not-room_for-2.false) in
    (omega (arith, c.place-i.ensures.high), omega arith, room_end row_bytes (n + 1) (length a.reg.now) c.room_for-2.result c.room_for-2.ensures (c.if-not-room_for-2.false) (n + 1) (omega arith), c.requires)

pub set_count-requires : goal.set_count-requires
set_count-requires c = omega (arith, c.if-reg-lt4.false, c.insert_case.auto.reg)

pub returns : goal.returns
returns c =
    let n = c.count-c.result + c.count.result in
    let a = c.args in
    case_new (probe_key row_bytes key_bits a.probe.now.row.now) (case_with a.f.now.birth a.f.now.prevalente.now a.f.now.scales.now) c.args.probe.now.keyed.small c.requires a.probe.now.row.now refl a.reg.now c.count-c.result c.count.result c.count-c.ensures.0 c.count.ensures.0 c.place-i.result c.place-i.ensures c.stands.result c.stands.ensures c.if-stands.false c.set_count.new.reg (c.set_count.auto.reg ∙ c.insert_case.auto.reg)
    (room_few row_bytes (n + 1) (length a.reg.now) c.room_for-2.result c.room_for-2.ensures (c.if-not-room_for-2.false))
    (room_end row_bytes (n + 1) (length a.reg.now) c.room_for-2.result c.room_for-2.ensures (c.if-not-room_for-2.false) (n + 1) (omega arith))
    (c.set_count.ensures ∙ ap (with_count 0 (c.count-c.result + 1)) c.insert_case.ensures)
