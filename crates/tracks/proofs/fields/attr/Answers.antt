use mathlib.Core.Path.{◌∙◌}
use Rattle.tracks.proofs.fields.attr.Goals as goal

pub returns-in_err-v : goal.returns-in_err-v
returns-in_err-v c = λ t h. rw c.from_residual.ensures (c.in_err-v.ensures.0 t h)

pub returns : goal.returns
returns c = λ t h. let v = c.in_ok-v.ensures.0 t h in (c.part.ensures ∙ v.0, v.1)
