use Prim.Native.Nat.{ℕ}
use mathlib.Core.Path.{ap, ◌∙◌}
use lib.Dec.{eqb}
use Rattle.home_care.specs.Row.{event_key_of}
use Rattle.judge.proofs.Rows.{has_none, has_here}
use Rattle.judge.proofs.standing.has_event.Goals as goal

pub returns-then-rows-i : goal.returns-then-rows-i
returns-then-rows-i c =
    let r = c.args.rows in
    λ up. has_none r.reg.now r.lo r.hi up c.args.e _ c.place_event-i.ensures c.if-rows-i.true

pub returns : goal.returns
returns c =
    let r = c.args.rows in
    λ up.
    c.same_key.ensures
    ∙ ap (λ (x : ℕ). eqb (event_key_of x) (event_key_of c.args.e)) c.event_at.ensures.0
    ∙ has_here r.reg.now r.lo r.hi up c.args.e _ c.place_event-i.ensures c.if-rows-i.false
