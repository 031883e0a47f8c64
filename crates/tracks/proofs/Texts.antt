-- What a text that fits tells, one law for each kind of text.
use Prim.Native.Nat.{ℕ, ◌+◌, ◌-◌, ◌*◌, ◌≤◌, ◌<◌}
use Prim.Native.Char.{code}
use mathlib.Core.Path.{◌≡◌}
use mathlib.Core.Bool.{Bool, true, ◌&&◌}
use mathlib.Core.List.{List, [], ◌∷◌}
use native.Mathlib.Omega.{arith}
use lib.Dec.{eqb, leb}
use lib.ListN.{length, get_or}
use borrow.Author.Tests.{leb-true, eqb-true}
use Rattle.laws.specs.Decimal.{is_digit, decimal_after, decimal}
use Rattle.laws.specs.Lists.{all}
use Rattle.laws.proofs.Truth.{and_left, and_right}
use Rattle.days.specs.DayNumbers.{real_day, day_count}
use Rattle.days.specs.Dates.{year_text, month_text, day_text, has_date_form, is_date, day_of}
use Rattle.days.proofs.Months.{real}
use Rattle.days.proofs.Firsts.{day_found}
use Rattle.laws.proofs.Lists.{all_map}
use Rattle.codes.specs.CodesAndCharacters.{Range, in_ranges, digits}
use Rattle.codes.proofs.Decimals.{digits_below}
use Rattle.schema.specs.Texts.{chars, number, date, plain, wide, digits_in, unpadded, fits_text}
use Rattle.tracks.specs.WellRead.{Spelled}
use Rattle.tracks.specs.Typed.{IsNumber}
use Rattle.tracks.proofs.Sets.{digit_in}

-- ---- characters of a set

pub record Chars (rs : List Range) (least most : ℕ) (t : List ℕ) : Type 0 where
  pub low : least ≤ length t
  pub high : length t ≤ most
  pub bytes : all (in_ranges rs) t ≡ true

pub chars_fit : (rs : List Range) (a z : ℕ) (t : List ℕ) → fits_text (chars rs a z) t ≡ true → Chars rs a z t
unfolding fits_text
chars_fit rs a z t e =
    let l = and_left (leb a (length t) && leb (length t) z) (all (in_ranges rs) t) e in
    record {
      low = leb-true a (length t) (and_left (leb a (length t)) (leb (length t) z) l);
      high = leb-true (length t) z (and_right (leb a (length t)) (leb (length t) z) l);
      bytes = and_right (leb a (length t) && leb (length t) z) (all (in_ranges rs) t) e;
    }

pub spelled : (rs : List Range) (n : ℕ) (t : List ℕ) → fits_text (chars rs n n) t ≡ true → Spelled (in_ranges rs) n t
spelled rs n t e = let c = chars_fit rs n n t e in record { long = omega arith; bytes = c.bytes }

-- one character: what is known of it, and of the number that it writes
pub one_char : (rs : List Range) (t : List ℕ) → fits_text (chars rs 1 1) t ≡ true → in_ranges rs (get_or t 0 0) ≡ true
unfolding all
one_char rs [] e = let c = chars_fit rs 1 1 [] e in absurd (omega (arith, c.low))
one_char rs (b ∷ t) e = and_left (in_ranges rs b) (all (in_ranges rs) t) (chars_fit rs 1 1 (b ∷ t) e).bytes

pub one_digit : (rs : List Range) (q : ℕ → Bool) (t : List ℕ) → ((b : ℕ) → in_ranges rs b ≡ true → q (b - code "0") ≡ true) → fits_text (chars rs 1 1) t ≡ true
    → q (decimal t) ≡ true
unfolding all decimal_after
one_digit rs q [] h e = let c = chars_fit rs 1 1 [] e in absurd (omega (arith, c.low))
one_digit rs q (b ∷ []) h e =
    let z : 0 * 10 + (b - code "0") ≡ b - code "0" = omega arith in
    rw z (h b (and_left (in_ranges rs b) true (chars_fit rs 1 1 (b ∷ []) e).bytes))
one_digit rs q (b ∷ c ∷ t) h e = let c = chars_fit rs 1 1 (b ∷ c ∷ t) e in absurd (omega (arith, c.high))

pub chars_digits : (rs : List Range) (a z : ℕ) (t : List ℕ) → ((b : ℕ) → in_ranges rs b ≡ true → is_digit b ≡ true) → fits_text (chars rs a z) t ≡ true
    → all is_digit t ≡ true
chars_digits rs a z t h e = all_map (in_ranges rs) is_digit h t (chars_fit rs a z t e).bytes

-- ---- numbers

digits_number : (rs : List Range) (t : List ℕ) → digits_in rs t ≡ true → (all is_digit t ≡ true) × (in_ranges rs (decimal t) ≡ true)
digits_number rs t e =
    let r = and_right (leb 1 (length t)) (all is_digit t && in_ranges rs (decimal t)) e in
    (and_left (all is_digit t) (in_ranges rs (decimal t)) r, and_right (all is_digit t) (in_ranges rs (decimal t)) r)

pub plain_fit : (rs : List Range) (t : List ℕ) → fits_text (number plain rs) t ≡ true → in_ranges rs (decimal t) ≡ true
unfolding fits_text
plain_fit rs t e = (digits_number rs t (and_right (unpadded t) (digits_in rs t) e)).1

pub plain_digits : (rs : List Range) (t : List ℕ) → fits_text (number plain rs) t ≡ true → all is_digit t ≡ true
unfolding fits_text
plain_digits rs t e = (digits_number rs t (and_right (unpadded t) (digits_in rs t) e)).0

pub wide_fit : (n : ℕ) (rs : List Range) (t : List ℕ) → fits_text (number (wide n) rs) t ≡ true → Spelled is_digit n t × (in_ranges rs (decimal t) ≡ true)
unfolding fits_text
wide_fit n rs t e =
    let d = digits_number rs t (and_right (eqb (length t) n) (digits_in rs t) e) in
    (record { long = eqb-true (length t) n (and_left (eqb (length t) n) (digits_in rs t) e); bytes = d.0 }, d.1)

pub four_digits : (t : List ℕ) → fits_text (chars digits 4 4) t ≡ true → decimal t < 10000
four_digits t e = let s = spelled digits 4 t e in rw s.long at (digits_below t (all_map (in_ranges digits) is_digit digit_in t s.bytes))

pub year_number : (t : List ℕ) → fits_text (chars digits 4 4) t ≡ true → IsNumber t
year_number t e = record { digits = chars_digits digits 4 4 t digit_in e; small = four_digits t e }

pub region_number : (rs : List Range) (t : List ℕ) → fits_text (number (wide 3) rs) t ≡ true → IsNumber t
region_number rs t e =
    let w = (wide_fit 3 rs t e).0 in
    let b = rw w.long at (digits_below t w.bytes) in
    record { digits = w.bytes; small = omega arith }

-- ---- dates

pub date_is : (t : List ℕ) → fits_text date t ≡ true → is_date t ≡ true
unfolding fits_text
date_is t e = e

pub date_fit : (t : List ℕ) → fits_text date t ≡ true → day_of t < day_count
unfolding fits_text is_date day_of
date_fit t e =
    day_found (decimal (year_text t)) (decimal (month_text t)) (decimal (day_text t))
    (real (decimal (year_text t)) (decimal (month_text t)) (decimal (day_text t))
    (and_right (has_date_form t) (real_day (decimal (year_text t)) (decimal (month_text t)) (decimal (day_text t))) e))
