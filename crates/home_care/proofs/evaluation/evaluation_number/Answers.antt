use mathlib.Core.Path.{◌∙◌}
use Rattle.home_care.specs.Fits.{evaluation_with}
use Rattle.home_care.proofs.Packed.{evaluation_made}
use Rattle.home_care.proofs.evaluation.evaluation_number.Goals as goal

pub returns : goal.returns
returns c =
    (evaluation_made _ _ _ c.finish.new.out _ _ (evaluation_with c.args.scales.now c.args.prevalente.now) _ c.requires (rw c.new.ensures.start at c.put_each.ensures.wrote) c.put_each-2.ensures.wrote (c.put_each-2.auto.out ∙ c.put_each.auto.out) (c.finish.auto.out ∙ c.put_each-2.auto.out ∙ c.put_each.auto.out) c.finish.ensures c.get.ensures.value, c.get.ensures.small)
