use mathlib.Core.Path.{◌∙◌, refl, sym}
use Rattle.nodes.specs.Stands.{stands}
use Rattle.tracks.proofs.Happening.{whole, here, later, nowhere, worded_here}
use Rattle.tracks.proofs.events.event_at.Goals as goal

-- The invariant: the event is as one of the wordings has it that are left.

pub loop-w-init : goal.loop-w-init
loop-w-init c = λ t m e. whole _ t refl

pub event-requires : goal.event-requires
event-requires c =
    let k = c.requires in
    (k.0, stands k.1 k.2, worded_here (c.loop-w.invariant k.0 k.1 k.2) _ c.loop-w-test.true k.3 (sym (c.is_named.ensures _ k.0 k.1 k.2) ∙ c.if-is_named.true))

pub returns-then-is_named : goal.returns-then-is_named
returns-then-is_named c =
    λ t m e. here (c.loop-w.invariant t m e) _ c.loop-w-test.true (sym c.if-is_named.true ∙ c.is_named.ensures _ t m e) (c.event.ensures t (stands m e))

pub loop-w-preserved : goal.loop-w-preserved
loop-w-preserved c = λ t m e. later (c.loop-w.invariant t m e) _ c.loop-w-test.true (sym c.if-is_named.false ∙ c.is_named.ensures _ t m e)

pub returns : goal.returns
returns c = λ t m e. nowhere (c.loop-w.invariant t m e) c.loop-w-test.false
