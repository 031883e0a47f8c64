use Rattle.std.proofs.Common.{rules, ◌∙◌}
use Rattle.std.proofs.lemmas.Iterator.{YieldsList-from_slice}
use Rattle.std.proofs.lemmas.Iterator.Search.{all_from_yields_List}
use Rattle.laws.proofs.Library.{all_is}
use Rattle.markup.specs.Bytes.{is_ws}
use Rattle.schema.proofs.leaves.all_ws.Goals as goal

pub returns : goal.returns
returns c =
    all_from_yields_List is_ws _ _ _ c.all.ensures.ran (YieldsList-from_slice c.args.text.now cc) (λ x b q k. search rules) ∙ all_is _ _
