use Rattle.std.proofs.Common.{rules, ◌∙◌, ◌&&◌}
use Rattle.std.proofs.lemmas.Iterator.{YieldsList-from_slice}
use Rattle.std.proofs.lemmas.Iterator.Consumers.{fold_from_yields_List}
use Rattle.laws.proofs.Library.{fold_all}
use Rattle.markup.specs.Bytes.{in_file}
use Rattle.markup.proofs.bytes.all_in_file.Goals as goal

pub returns : goal.returns
returns c =
    fold_from_yields_List _ (λ a b. a && in_file b) _ _ c.fold.ensures.ran (YieldsList-from_slice c.args.s.now cc) (λ a x b q k. search rules) ∙ fold_all _ _
