use mathlib.Core.Path.{◌∙◌}
use Rattle.markup.proofs.AtTags.{ok_ending_back}
use Rattle.reading.proofs.Skipping.{tag_named, tag_unnamed}
use native.Mathlib.Omega.{arith}
use Rattle.reading.proofs.skips.tag_end.Goals as goal

pub returns-in_err-name : goal.returns-in_err-name
returns-in_err-name c = rw c.from_residual.ensures (λ g m e. tag_unnamed _ g m e c.in_err-name.ensures.0, tt)

pub returns : goal.returns
returns c = (
  λ g m e. c.attributes.ensures.0 ∙ tag_named _ g m e c.in_ok-name.ensures.0,
  ok_ending_back c.args.s.now c.args.at c.in_ok-name.name.next.at c.attributes.result (omega (arith, c.in_ok-name.ensures)) c.attributes.ensures.1,
)
