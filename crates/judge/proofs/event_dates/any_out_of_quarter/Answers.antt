use borrow.Author.Rules.{rules}
use borrow.Author.Tests.{tests}
use mathlib.Core.Path.{◌∙◌}
use Rattle.home_care.specs.Anomalies.{out_of_quarter, day_for}
use Rattle.judge.specs.View.{context_in}
use Rattle.std.proofs.lemmas.Iterator.{YieldsList-from_slice}
use Rattle.std.proofs.lemmas.Iterator.Search.{any_from_yields_List}
use Rattle.laws.proofs.Library.{any_is}
use Rattle.judge.proofs.event_dates.any_out_of_quarter.Goals as goal

pub returns : goal.returns
returns c =
    let evs = c.args.evs.now in
    any_from_yields_List (λ e. out_of_quarter (context_in c.args.l) (day_for e)) _ _ _ c.any.ensures.ran (YieldsList-from_slice evs (search rules)) (λ x b q k. search (rules, tests)) ∙ any_is _ evs
