use Prim.Native.Nat.{ℕ}
use mathlib.Core.Path.{◌≡◌, sym, ap, ◌∙◌, subst}
use mathlib.Core.Bool.{true}
use Rattle.home_care.specs.Row.{event_number, evaluates}
use Rattle.home_care.specs.Fits.{EventFits}
use Rattle.home_care.proofs.EventAllowed.{event_fits}
use Rattle.tracks.specs.EventElements.{worded_by}
use Rattle.tracks.specs.RecordFields.{said_with}
use Rattle.tracks.specs.View.{told}
use Rattle.tracks.proofs.Evaluations.{kind-evaluates}
use Rattle.tracks.proofs.Happening.{event_read}
use Rattle.tracks.proofs.events.event.Goals as goal

pub event_number-requires : goal.event_number-requires
event_number-requires c =
    let k = c.requires in
    subst EventFits (event_read (worded_by c.args.w.now) k.0 (c.attr_day-day.ensures.0 k.0 k.1) (c.attr_end-last.ensures k.0 k.1) (c.text_number_at-what.ensures k.0 k.1) (c.attr_number-times.ensures k.0 k.1) (c.attr_number-confirmed.ensures k.0 k.1)) (event_fits _ k.2.allowed)

pub said-requires : goal.said-requires
said-requires c =
    let k = c.requires in
    let e = event_read (worded_by c.args.w.now) k.0 (c.attr_day-day.ensures.0 k.0 k.1) (c.attr_end-last.ensures k.0 k.1) (c.text_number_at-what.ensures k.0 k.1) (c.attr_number-times.ensures k.0 k.1) (c.attr_number-confirmed.ensures k.0 k.1) in
    (k.0, k.1, λ h. k.2.evaluable (kind-evaluates _ (event_fits _ k.2.allowed) (subst (λ (n : ℕ). evaluates n ≡ true) (c.event_number.ensures.0 ∙ ap event_number (sym e)) h)))

pub returns : goal.returns
returns c =
    λ t h. c.said.ensures t h ∙ ap (λ (e : ℕ). told (said_with e t)) (c.event_number.ensures.0 ∙ ap event_number (sym (event_read (worded_by c.args.w.now) t (c.attr_day-day.ensures.0 t h) (c.attr_end-last.ensures t h) (c.text_number_at-what.ensures t h) (c.attr_number-times.ensures t h) (c.attr_number-confirmed.ensures t h))))
