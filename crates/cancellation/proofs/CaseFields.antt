-- The texts that name a case, by what each of them is.
use mathlib.Core.Path.{◌≡◌}
use mathlib.Core.Bool.{true, ◌&&◌}
use lib.Dec.{eqb}
use lib.ListN.{length}
use borrow.Author.Tests.{eqb-true}
use Rattle.laws.specs.Decimal.{decimal, is_digit}
use Rattle.laws.specs.Lists.{all}
use Rattle.laws.proofs.Truth.{and_left, and_right}
use Rattle.codes.specs.CodesAndCharacters.{in_ranges, alnums, id_chars, regions}
use Rattle.days.specs.Dates.{is_date}
use Rattle.tracks.proofs.Written.{date_parts}
use Rattle.soundness.specs.Finding.{texts_allowed}
use Rattle.cancellation.specs.FileText.{CaseTexts}

pub record Texts (x : CaseTexts) : Type 0 where
  pub region_long : length x.region ≡ 3
  pub region_digits : all is_digit x.region ≡ true
  pub region_listed : in_ranges regions (decimal x.region) ≡ true
  pub asl_long : length x.asl ≡ 3
  pub asl_chars : all (in_ranges alnums) x.asl ≡ true
  pub dated : is_date x.date ≡ true
  pub date_long : length x.date ≡ 10
  pub id_long : length x.id ≡ 88
  pub id_chars_lem : all (in_ranges id_chars) x.id ≡ true

-- the test by its parts
pub texts_told : (x : CaseTexts) → texts_allowed x.region x.asl x.date x.id ≡ true → Texts x
texts_told x h =
    let a = and_left (eqb (length x.region) 3 && all is_digit x.region) _ (and_left _ _ h) in
    let b = and_right ((eqb (length x.region) 3 && all is_digit x.region) && in_ranges regions (decimal x.region)) _ h in
    let c = and_left (eqb (length x.asl) 3 && all (in_ranges alnums) x.asl) _ b in
    let d = and_right (eqb (length x.asl) 3 && all (in_ranges alnums) x.asl) _ b in
    let e = and_right (is_date x.date) _ d in
    record {
      region_long = eqb-true (length x.region) 3 (and_left _ _ a);
      region_digits = and_right (eqb (length x.region) 3) _ a;
      region_listed = and_right (eqb (length x.region) 3 && all is_digit x.region) _ (and_left _ _ h);
      asl_long = eqb-true (length x.asl) 3 (and_left _ _ c);
      asl_chars = and_right (eqb (length x.asl) 3) _ c;
      dated = and_left (is_date x.date) _ d;
      date_long = (date_parts x.date (and_left (is_date x.date) _ d)).long;
      id_long = eqb-true (length x.id) 88 (and_left _ _ e);
      id_chars_lem = and_right (eqb (length x.id) 88) _ e;
    }
