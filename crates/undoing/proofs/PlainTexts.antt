-- The texts of a cancellation file can stand as a value and as a text: none is empty, and none of their bytes ends a value or a text.
use Prim.Native.Nat.{ℕ, ◌<◌, ◌≤◌}
use Prim.Native.Char.{code}
use mathlib.Core.Path.{◌≡◌, refl, sym, ap, ◌∙◌}
use mathlib.Core.Bool.{Bool, true, not, ◌&&◌, ◌||◌}
use mathlib.Core.List.{List, ◌∷◌}
use native.Mathlib.Omega.{arith}
use lib.Dec.{eqb, leb}
use lib.ListN.{length, drop, get_or, length-drop}
use lib.Seq.{split_at, drop-drop, get_or-drop, take_all}
use borrow.Author.Tests.{eqb-true, leb-true, le-leb}
use Rattle.laws.specs.Decimal.{is_digit}
use Rattle.laws.specs.Lists.{all, any, bytes}
use Rattle.laws.proofs.Truth.{and_left, and_right}
use Rattle.laws.proofs.Every.{and_tell}
use Rattle.laws.proofs.Lists.{all_map, all_join}
use Rattle.text.specs.Spelled.{spelled}
use Rattle.text.proofs.SpelledLaws.{spelled_digits, spelled_some}
use Rattle.codes.specs.CodesAndCharacters.{in_ranges, alnums, id_chars}
use Rattle.codes.proofs.Bytes.{agree_below, same_test}
use Rattle.codes.proofs.Ranges.{ranges_below}
use Rattle.days.specs.Dates.{year_text, month_text, day_text, has_date_form, is_date}
use Rattle.days.specs.WrittenDates.{date_text}
use Rattle.days.proofs.WrittenDates.{in_date, date_plain, date_long}
use Rattle.markup.specs.Bytes.{in_file, in_value, is_text}
use Rattle.cancellation.specs.FileText.{CaseTexts}
use Rattle.cancellation.proofs.CaseFields.{Texts}

-- a byte that a value in `"` can have
abbrev clean : ℕ → Bool
clean b = in_file b && in_value (code "\"") b

-- a text that can stand in a file, between quotes or between tags
pub record PlainText (t : List ℕ) : Type 0 where
  pub some : 0 < length t
  pub file : all in_file t ≡ true
  pub value : all (in_value (code "\"")) t ≡ true
  pub text : all is_text t ≡ true

-- one test of each byte tells all three
plain_of : (t : List ℕ) → 0 < length t → all clean t ≡ true → PlainText t
plain_of t h a =
    record {
      some = h;
      file = all_map clean in_file (λ b e. and_left (in_file b) (in_value (code "\"") b) e) t a;
      value = all_map clean (in_value (code "\"")) (λ b e. and_right (in_file b) (in_value (code "\"") b) e) t a;
      text = all_map clean is_text (λ b e. and_right (not (eqb b (code "\""))) (is_text b) (and_right (in_file b) (in_value (code "\"") b) e)) t a;
    }

-- ---- sets of clean bytes, by a test of each byte

abbrev Clean : (ℕ → Bool) → Type 0
Clean p = (b : ℕ) → p b ≡ true → clean b ≡ true

clean_by : (p : ℕ → Bool) → ((b : ℕ) → p b ≡ true → b ≤ 126) → agree_below 127 (λ b. not (p b) || clean b) (λ b. true) ≡ true → Clean p
clean_by p small e b h = rw h at (same_test 127 (λ b. not (p b) || clean b) (λ b. true) e b (omega (arith, small b h)))

in_dates : Clean in_date
unfolding agree_below
in_dates = clean_by in_date (λ b h. let l = leb-true b (code "9") (and_right (leb (code "-") b) (leb b (code "9")) h) in omega arith) refl

in_alnums : Clean (in_ranges alnums)
unfolding agree_below any all
in_alnums = clean_by (in_ranges alnums) (λ b h. ranges_below alnums 126 b refl h) refl

in_ids : Clean (in_ranges id_chars)
unfolding agree_below any all
in_ids = clean_by (in_ranges id_chars) (λ b h. ranges_below id_chars 126 b refl h) refl

-- a digit is one of a date's bytes
digit_dates : (b : ℕ) → is_digit b ≡ true → in_date b ≡ true
digit_dates b h =
    let l = leb-true (code "0") b (and_left (leb (code "0") b) (leb b (code "9")) h) in
    and_tell (leb (code "-") b) (leb b (code "9")) (le-leb (code "-") b (omega arith)) (and_right (leb (code "0") b) (leb b (code "9")) h)

dashed : (t : List ℕ) → all is_digit t ≡ true → all in_date t ≡ true
dashed = all_map is_digit in_date digit_dates

-- a text of clean bytes, not empty, is plain
plain_by : (p : ℕ → Bool) → Clean p → (t : List ℕ) → 0 < length t → all p t ≡ true → PlainText t
plain_by p c t h a = plain_of t h (all_map p clean c t a)

-- ---- the texts

-- digits; a day; a number; the type C
digits_plain : (t : List ℕ) → 0 < length t → all is_digit t ≡ true → PlainText t
digits_plain t h a = plain_by in_date in_dates t h (dashed t a)

pub day_plain : (d : ℕ) → PlainText (date_text d)
day_plain d = plain_by in_date in_dates (date_text d) (rw (date_long d) (omega arith)) (date_plain d)

pub number_plain : (n : ℕ) → PlainText (spelled n)
number_plain n = digits_plain (spelled n) (spelled_some n) (spelled_digits n)

pub type_plain : PlainText (bytes "C")
unfolding all
type_plain = plain_of (bytes "C") (omega arith) refl

-- a text AAAA-MM-GG has digits and dashes alone
form_bytes : (t : List ℕ) → length t ≡ 10 → all is_digit (year_text t) ≡ true → get_or t 4 0 ≡ code "-" →
    all is_digit (month_text t) ≡ true → get_or t 7 0 ≡ code "-" → all is_digit (day_text t) ≡ true → all in_date t ≡ true
unfolding all
form_bytes t l y f m g d =
    let o : length (drop 5 t) ≡ 5 = rw (length-drop 5 t, l) in
    let p : length (drop 8 t) ≤ 2 = rw (length-drop 8 t, l) (omega arith) in
    let f' : in_date (get_or t 4 0) ≡ true = rw f in
    let g' : in_date (get_or (drop 5 t) 2 0) ≡ true = rw (get_or-drop 5 t 2 0, g) in
    let d' : all in_date (drop 3 (drop 5 t)) ≡ true
    = ap (all in_date) (drop-drop 3 5 t ∙ sym (take_all 2 (drop 8 t) p)) ∙ dashed (day_text t) d in
    let m' : all in_date (drop 5 t) ≡ true
    = ap (all in_date) (split_at (drop 5 t) 2 0 (omega arith))
    ∙ all_join in_date (month_text t) (get_or (drop 5 t) 2 0 ∷ drop 3 (drop 5 t)) (dashed (month_text t) m) (and_tell (in_date (get_or (drop 5 t) 2 0)) _ g' d') in
    ap (all in_date) (split_at t 4 0 (omega arith))
    ∙ all_join in_date (year_text t) (get_or t 4 0 ∷ drop 5 t) (dashed (year_text t) y) (and_tell (in_date (get_or t 4 0)) _ f' m')

-- so does a date
date_bytes : (t : List ℕ) → is_date t ≡ true → (length t ≡ 10) × (all in_date t ≡ true)
unfolding is_date
date_bytes t h =
    let a = and_left (has_date_form t) _ h in
    let l = eqb-true (length t) 10 (and_left (eqb (length t) 10) _ a) in
    let b = and_right (eqb (length t) 10) _ a in
    let c = and_right (all is_digit (year_text t)) _ b in
    let d = and_right (eqb (get_or t 4 0) (code "-")) _ c in
    let e = and_right (all is_digit (month_text t)) _ d in (
      l,
      form_bytes t l (and_left (all is_digit (year_text t)) _ b) (eqb-true (get_or t 4 0) (code "-") (and_left _ _ c)) (and_left (all is_digit (month_text t)) _ d)
          (eqb-true (get_or t 7 0) (code "-") (and_left _ _ e)) (and_right (eqb (get_or t 7 0) (code "-")) _ e),
    )

-- the texts that name a case
module _ (x : CaseTexts) (t : Texts x) where
  pub region_plain : PlainText x.region
  region_plain = digits_plain x.region (rw t.region_long (omega arith)) t.region_digits

  pub asl_plain : PlainText x.asl
  asl_plain = plain_by (in_ranges alnums) in_alnums x.asl (rw t.asl_long (omega arith)) t.asl_chars

  pub taken_plain : PlainText x.date
  taken_plain = let d = date_bytes x.date t.dated in plain_by in_date in_dates x.date (rw d.0 (omega arith)) d.1

  pub id_plain : PlainText x.id
  id_plain = plain_by (in_ranges id_chars) in_ids x.id (rw t.id_long (omega arith)) t.id_chars_lem
