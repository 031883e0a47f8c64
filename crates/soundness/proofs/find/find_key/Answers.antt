use Rattle.soundness.proofs.FindPlace.{found_at, found_not}
use Rattle.soundness.proofs.find.find_key.Goals as goal

pub returns-then-not-stands : goal.returns-then-not-stands
returns-then-not-stands c =
    λ u. found_not c.args.w c.args.reg.now c.args.probe.now _ _ _ c.count-cases.ensures.0 c.place-i.ensures c.stands.ensures u (c.if-not-stands.true)

pub returns : goal.returns
returns c =
    λ u. found_at c.args.w c.args.reg.now c.args.probe.now _ _ _ c.count-cases.ensures.0 c.place-i.ensures c.stands.ensures u (c.if-not-stands.false)
