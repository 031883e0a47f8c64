-- The texts of a cancellation file are of their fields' types.
use Prim.Native.Nat.{ℕ, zero, suc, ◌<◌}
use Prim.Native.Char.{code}
use mathlib.Core.Path.{◌≡◌, refl, sym, ◌∙◌}
use mathlib.Core.Bool.{true, false, false≢true}
use mathlib.Core.List.{List, [], ◌∷◌}
use native.Mathlib.Omega.{arith}
use lib.ListN.{length, get_or}
use borrow.Author.Tests.{le-leb, ne_eqb}
use Rattle.laws.specs.Lists.{all, any, bytes}
use Rattle.text.specs.Spelled.{spelled, spelled_in}
use Rattle.text.proofs.SpelledLaws.{spelled_reads, spelled_digits, spelled_some, spelled_first}
use Rattle.codes.specs.CodesAndCharacters.{Range, ◌to◌, in_ranges}
use Rattle.codes.proofs.Ranges.{ranges_below}
use Rattle.days.specs.DayNumbers.{day_count}
use Rattle.days.specs.WrittenDates.{date_text}
use Rattle.days.proofs.WrittenDates.{date_spelled_lem}
use Rattle.schema.specs.Texts.{number, plain, date, unpadded, fits_text}
use Rattle.schemas.specs.FieldTexts.{between, empty, tipo_trasmissione, regione_erogazione, cod_asl, id_rec}
use Rattle.cancellation.specs.FileText.{CaseTexts}
use Rattle.cancellation.proofs.CaseFields.{Texts}

-- a day
pub day_fits : (d : ℕ) → d < day_count → fits_text date (date_text d) ≡ true
unfolding fits_text
day_fits d h = (date_spelled_lem d h).0

-- 1 or 2, as a character
pub two_fits : (c : ℕ) → in_ranges ((1 to 2) ∷ []) c ≡ true → fits_text (between "1" "2") (spelled c) ≡ true
unfolding fits_text spelled spelled_in all any
two_fits zero h = absurd (false≢true h)
two_fits (suc zero) h = refl
two_fits (suc (suc zero)) h = refl
two_fits (suc (suc (suc c))) h = let l = ranges_below ((1 to 2) ∷ []) 2 (suc (suc (suc c))) refl h in absurd (omega arith)

-- no leading zero
no_zero_first : (t : List ℕ) → (get_or t 0 0 ≡ code "0" → ⊥) → unpadded t ≡ true
no_zero_first [] h = refl
no_zero_first (b ∷ []) h = refl
no_zero_first (b ∷ c ∷ t) h = rw (ne_eqb b (code "0") h)

-- what is in ranges less_chosen 0 is above 0
above : (rs : List Range) (c : ℕ) → in_ranges rs 0 ≡ false → in_ranges rs c ≡ true → 0 < c
above rs zero n h = absurd (false≢true (sym n ∙ h))
above rs (suc c) n h = omega arith

-- a number of ranges less_chosen 0
pub number_fits : (rs : List Range) (c : ℕ) → in_ranges rs 0 ≡ false → in_ranges rs c ≡ true → fits_text (number plain rs) (spelled c) ≡ true
unfolding fits_text
number_fits rs c n h =
    rw (
      no_zero_first (spelled c) (spelled_first c (above rs c n h)),
      le-leb 1 (length (spelled c)) (spelled_some c),
      spelled_digits c,
      spelled_reads c,
    ) h

-- type C, with nothing in it
pub type_fits : (fits_text tipo_trasmissione (bytes "C") ≡ true) × (fits_text empty [] ≡ true)
unfolding fits_text all any
type_fits = (refl, refl)

-- the texts that name the case
module _ (x : CaseTexts) (t : Texts x) where
  pub region_fits : fits_text regione_erogazione x.region ≡ true
  unfolding fits_text
  region_fits = rw (t.region_long, t.region_digits) t.region_listed

  pub asl_fits : fits_text cod_asl x.asl ≡ true
  unfolding fits_text
  asl_fits = rw t.asl_long t.asl_chars

  pub taken_fits : fits_text date x.date ≡ true
  unfolding fits_text
  taken_fits = t.dated

  pub id_fits : fits_text id_rec x.id ≡ true
  unfolding fits_text
  id_fits = rw t.id_long t.id_chars_lem
