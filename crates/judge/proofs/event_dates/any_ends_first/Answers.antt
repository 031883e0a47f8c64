use borrow.Author.Rules.{rules}
use borrow.Author.Tests.{tests}
use mathlib.Core.Path.{◌∙◌}
use lib.Dec.{ltb}
use mathlib.Core.Bool.{◌&&◌}
use Rattle.home_care.specs.Row.{date_of, end_of}
use Rattle.home_care.specs.Anomalies.{is_suspension}
use Rattle.std.proofs.lemmas.Iterator.{YieldsList-from_slice}
use Rattle.std.proofs.lemmas.Iterator.Search.{any_from_yields_List}
use Rattle.laws.proofs.Library.{any_is}
use Rattle.judge.proofs.event_dates.any_ends_first.Goals as goal

pub returns : goal.returns
returns c =
    let evs = c.args.evs.now in
    any_from_yields_List (λ e. is_suspension e && ltb (end_of e) (date_of e)) _ _ _ c.any.ensures.ran (YieldsList-from_slice evs (search rules)) (λ x b q k. search (rules, tests)) ∙ any_is _ evs
