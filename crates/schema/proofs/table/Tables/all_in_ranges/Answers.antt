use Rattle.std.proofs.Common.{rules, ◌∙◌, inl}
use Rattle.std.proofs.lemmas.Iterator.{YieldsList-from_slice}
use Rattle.std.proofs.lemmas.Iterator.Search.{all_from_yields_List}
use Rattle.laws.proofs.Library.{all_is}
use Rattle.codes.specs.CodesAndCharacters.{in_ranges}
use Rattle.schema.specs.Table.{ranges_at}
use Rattle.schema.proofs.table.Tables.all_in_ranges.Goals as goal

pub returns : goal.returns
returns c =
    λ t p. all_from_yields_List (in_ranges (ranges_at t p c.args.self.now.ranges.now c.args.rows.first c.args.rows.n)) _ _ _ c.all.ensures.ran (YieldsList-from_slice c.args.text.now cc) (λ x b q k. search (rules, inl)) ∙ all_is _ _
