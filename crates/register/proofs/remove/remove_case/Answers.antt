use mathlib.Core.Path.{refl, sym, ◌∙◌}
use Rattle.register.specs.TakenOutBytes.CaseDropDone.{misfit, absent, gone}
use Rattle.register.proofs.Halving.{at_key}
use Rattle.register.proofs.Stores.{room_denied}
use Rattle.register.proofs.GoneCase.{case_gone}
use Rattle.register.proofs.remove.remove_case.Goals as goal

-- ---- what is known at the places

-- ---- the needs

pub returns-then-not-room_for : goal.returns-then-not-room_for
returns-then-not-room_for c =
    (case_gone c.args.w c.args.kbits c.args.probe.now c.args.reg.now c.count-c.result c.count.result c.count-c.ensures.0 c.count.ensures.0) c.args.reg.now refl (misfit (room_denied _ _ _ _ c.room_for.ensures (c.if-not-room_for.true)) refl)

pub returns-then-not-stands : goal.returns-then-not-stands
returns-then-not-stands c =
    (case_gone c.args.w c.args.kbits c.args.probe.now c.args.reg.now c.count-c.result c.count.result c.count-c.ensures.0 c.count.ensures.0) c.args.reg.now refl (absent c.place-i.result ((at_key _ _ _ _ _ c.place-i.ensures)) (sym c.stands.ensures ∙ c.if-not-stands.true) refl)

pub returns : goal.returns
returns c =
    let r = c.case_range-lo in
    (case_gone c.args.w c.args.kbits c.args.probe.now c.args.reg.now c.count-c.result c.count.result c.count-c.ensures.0 c.count.ensures.0) c.close_case.new.reg c.close_case.auto.reg
    (gone c.place-i.result r.result.lo r.result.hi ((at_key _ _ _ _ _ c.place-i.ensures)) ((sym c.stands.ensures ∙ c.if-not-stands.false)) r.ensures c.close_case.ensures)
