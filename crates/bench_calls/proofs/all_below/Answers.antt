use Rattle.std.proofs.Common.{◌∙◌, ltb, rules}
use Rattle.std.proofs.lemmas.Iterator.{YieldsList-from_slice}
use Rattle.std.proofs.lemmas.Iterator.Search.{all_from_yields_List}
use Rattle.laws.proofs.Library.{all_is}
use Rattle.bench_calls.proofs.all_below.Goals as goal

pub returns : goal.returns
returns c =
    all_from_yields_List (λ e. ltb e c.args.past) _ _ _ c.all.ensures.ran (YieldsList-from_slice c.args.ns.now cc) (λ x b q k. search rules) ∙ all_is _ _
