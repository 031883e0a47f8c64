use Rattle.std.proofs.Common.{rules, ◌&&◌, ◌∙◌}
use lib.Dec.{eqb}
use Rattle.std.proofs.lemmas.Iterator.{YieldsList-from_slice}
use Rattle.std.proofs.lemmas.Iterator.Consumers.{fold_from_yields_List}
use Rattle.laws.proofs.Library.{fold_all}
use Rattle.home_care.proofs.texts.all_zero.Goals as goal

pub returns : goal.returns
returns c =
    fold_from_yields_List _ (λ a b. a && eqb b 0) _ _ c.fold.ensures.ran (YieldsList-from_slice c.args.s.now cc) (λ a x b q k. search rules) ∙ fold_all _ _
