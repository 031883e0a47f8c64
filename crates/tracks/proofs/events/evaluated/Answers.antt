use mathlib.Core.Path.{◌∙◌, ap, sym}
use Rattle.home_care.specs.Record.{padded}
use Rattle.tracks.proofs.Evaluations.{evaluable_fits, kept_number, not_kept}
use Rattle.tracks.proofs.events.evaluated.Goals as goal

pub returns-then-not-evaluates : goal.returns-then-not-evaluates
returns-then-not-evaluates c =
    λ t h. (c.child_text.ensures.0 _ (c.child-illness.ensures t h), not_kept c.args.w t (sym c.evaluates.ensures ∙ c.if-not-evaluates.true))

pub valued-v-requires : goal.valued-v-requires
valued-v-requires c =
    let k = c.requires in
    (k.0, k.1, (k.2 (sym c.evaluates.ensures ∙ c.if-not-evaluates.false)).scaled)

pub evaluation_number-requires : goal.evaluation_number-requires
evaluation_number-requires c =
    let k = c.requires in
    let v = c.valued-v.ensures k.0 k.1 in
    evaluable_fits k.0 v.1 (c.filled-prevalente.ensures ∙ ap padded (c.part.ensures ∙ v.0)) (k.2 (sym c.evaluates.ensures ∙ c.if-not-evaluates.false))

pub returns : goal.returns
returns c =
    λ t h.
    let v = c.valued-v.ensures t h in
    (v.0, kept_number t v.1 (c.filled-prevalente.ensures ∙ ap padded (c.part.ensures ∙ v.0)) c.args.w (sym c.evaluates.ensures ∙ c.if-not-evaluates.false) c.evaluation_number.ensures.0)
