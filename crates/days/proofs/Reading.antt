-- A date at a place of a longer text, from what the code reads there: two dashes, and three numbers that are 0 where a digit is missing.
use Prim.Native.Nat.{ℕ, ◌+◌, ◌-◌, ◌≤◌, ◌<◌}
use Prim.Native.Char.{code}
use mathlib.Core.Path.{◌≡◌, refl, sym, ap, ◌∙◌}
use mathlib.Core.Bool.{Bool, true, false, cond, not, ◌&&◌, ◌||◌, true≢false, false≢true}
use mathlib.Core.List.{List}
use native.Mathlib.Omega.{arith}
use lib.Dec.{eqb, leb}
use lib.ListN.{length, take, drop, get_or, length-take, length-drop}
use lib.Seq.{drop-drop}
use borrow.Author.Tests.{eq-eqb, ne_eqb}
use Rattle.laws.specs.Decimal.{is_digit, decimal}
use Rattle.laws.specs.Lists.{all}
use Rattle.laws.proofs.Truth.{and-false, and_right}
use Rattle.days.specs.DayNumbers.{real_day, day_number}
use Rattle.days.specs.Dates.{year_text, month_text, day_text, has_date_form, is_date, day_of, undated, dated, date_at}
use Rattle.days.specs.View.{DateIs}

-- what `digits` answers
abbrev pub number : List ℕ → ℕ
number w = cond (all is_digit w) (decimal w) 0

-- no year, month or day is 0
module _ (y m d : ℕ) where
  shuffle : (a b c p q : Bool) → ((a && (p && (b && (q && c)))) && real_day y m d) ≡ ((p && q) && real_day (cond a y 0) (cond b m 0) (cond c d 0))
  shuffle false b c p q = sym (and-false (p && q))
  shuffle true b c false q = refl
  shuffle true false c true q = sym (rw (and-false (leb 1900 y && leb y 2099)) (and-false q))
  shuffle true true c true false = refl
  shuffle true true false true true = sym (rw (and-false (leb 1 m && leb m 12)) (and-false (leb 1900 y && leb y 2099)))
  shuffle true true true true true = refl

  -- so the numbers of a real day are those of the digits
  told : (a b c : Bool) → real_day (cond a y 0) (cond b m 0) (cond c d 0) ≡ true → (cond a y 0 ≡ y) × (cond b m 0 ≡ m) × (cond c d 0 ≡ d)
  told false b c e = absurd (false≢true e)
  told true false c e = absurd (false≢true (sym (and-false (leb 1900 y && leb y 2099)) ∙ e))
  told true true false e =
      absurd (false≢true (sym (rw (and-false (leb 1 m && leb m 12)) (and-false (leb 1900 y && leb y 2099))) ∙ e))
  told true true true e = (refl, refl, refl)

nand : (a b : Bool) → not a || not b ≡ true → a && b ≡ false
nand true true e = absurd (false≢true e)
nand true false e = refl
nand false b e = refl

both : (a b : Bool) → not a || not b ≡ false → a && b ≡ true
both true true e = refl
both true false e = absurd (true≢false e)
both false b e = absurd (true≢false e)

pub date_short : (s : List ℕ) (at : ℕ) → length s < at + 10 → is_date (take 10 (drop at s)) ≡ false
unfolding is_date
date_short s at h =
    let l : length (take 10 (drop at s)) < 10 = simp (length-take, length-drop) (omega arith) in
    let e : eqb (length (take 10 (drop at s))) 10 ≡ false = ne_eqb (length (take 10 (drop at s))) 10 (λ e. omega arith) in
    rw e

-- the ten bytes that the code cuts out
module _ (s : List ℕ) (at : ℕ) (fits : at + 10 ≤ length s) where
  abbrev text : List ℕ
  text = take (at + 10 - at) (drop at s)

  cut : take 10 (drop at s) ≡ text
  cut = let e : 10 ≡ at + 10 - at = omega arith in ap (λ (k : ℕ). take k (drop at s)) e

  long : eqb (length text) 10 ≡ true
  long = eq-eqb (length text) 10 (simp (length-take, length-drop) (omega arith))

  dashes : Bool
  dashes = eqb (get_or text 4 0) (code "-") && eqb (get_or text 7 0) (code "-")

  -- the three numbers as the code reads them
  module _ (y m d : ℕ) (ys : y ≡ number (year_text text)) (ms : m ≡ number (month_text text)) (ds : d ≡ number (day_text text)) where
    is_date_lem : is_date text ≡ (dashes && real_day y m d)
    unfolding is_date dashes
    is_date_lem =
        rw (long, ys, ms, ds)
        (shuffle (decimal (year_text text)) (decimal (month_text text)) (decimal (day_text text))
        (all is_digit (year_text text)) (all is_digit (month_text text)) (all is_digit (day_text text))
        (eqb (get_or text 4 0) (code "-")) (eqb (get_or text 7 0) (code "-")))

    pub date_unreal : real_day y m d ≡ false → is_date (take 10 (drop at s)) ≡ false
    date_unreal e = rw (cut, is_date_lem, e) (and-false dashes)

    pub date_real : not (eqb (get_or text 4 0) (code "-")) || not (eqb (get_or text 7 0) (code "-")) ≡ false → real_day y m d ≡ true → DateIs (take 10 (drop at s)) y m d
    unfolding dashes
    date_real h e =
        let f =
        told (decimal (year_text text)) (decimal (month_text text)) (decimal (day_text text))
        (all is_digit (year_text text)) (all is_digit (month_text text)) (all is_digit (day_text text)) (rw (ys, ms, ds) at e)
        in
        rw cut
        (record {
          date = rw (is_date_lem, both (eqb (get_or text 4 0) (code "-")) (eqb (get_or text 7 0) (code "-")) h, e);
          year = ys ∙ f.0;
          month = ms ∙ f.1;
          day = ds ∙ f.2;
        })

  pub date_undashed : not (eqb (get_or text 4 0) (code "-")) || not (eqb (get_or text 7 0) (code "-")) ≡ true → is_date (take 10 (drop at s)) ≡ false
  unfolding dashes
  date_undashed h =
      rw (cut, is_date_lem (number (year_text text)) (number (month_text text)) (number (day_text text)) refl refl refl, nand (eqb (get_or text 4 0) (code "-")) (eqb (get_or text 7 0) (code "-")) h)

-- the day number, from the parts
pub parts_real : {w : List ℕ} {y m d : ℕ} → DateIs w y m d → real_day y m d ≡ true
unfolding is_date
parts_real {w} p =
    rw (p.year, p.month, p.day) (and_right (has_date_form w) (real_day (decimal (year_text w)) (decimal (month_text w)) (decimal (day_text w))) p.date)

pub parts_dated : (s : List ℕ) (at : ℕ) {y m d : ℕ} → DateIs (take 10 (drop at s)) y m d → dated (day_number y m d) (drop (at + 10) s) ≡ date_at (drop at s)
unfolding date_at day_of
parts_dated s at p = rw (p.date, drop-drop 10 at s, p.year, p.month, p.day)

pub parts_none : (s : List ℕ) (at : ℕ) → is_date (take 10 (drop at s)) ≡ false → undated ≡ date_at (drop at s)
unfolding date_at
parts_none s at e = rw e
