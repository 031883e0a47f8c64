-- Digits read one after the other, the parts of a date, and an attribute or an element that is missing.
use Prim.Native.Nat.{ℕ, ◌+◌, ◌*◌, ◌-◌, ◌≤◌, ◌<◌}
use Prim.Native.Char.{code}
use mathlib.Core.Path.{◌≡◌, refl, sym, ◌∙◌}
use mathlib.Core.Bool.{true, false}
use mathlib.Core.List.{List, [], ◌∷◌}
use native.Mathlib.Omega.{arith}
use native.Mathlib.Nat.{pow-le-pow_right}
use lib.Dec.{eqb}
use lib.ListN.{length, drop, get_or, length-take}
use borrow.Author.Tests.{eqb-true}
use Rattle.laws.specs.Decimal.{is_digit, decimal_after, decimal}
use Rattle.laws.specs.Lists.{all}
use Rattle.laws.proofs.Places.{all_step}
use Rattle.laws.proofs.Truth.{and_left, and_right}
use Rattle.codes.proofs.Decimals.{digits_below}
use Rattle.days.specs.DayNumbers.{real_day, day_number}
use Rattle.days.specs.Dates.{year_text, month_text, day_text, has_date_form, is_date, day_of}
use Rattle.days.proofs.Digits.{Left, left_end}
use Rattle.markup.specs.Elements.{Tree, element}
use Rattle.reading.proofs.Cut.{never}
use Rattle.nodes.specs.Lookup.{attr_of, has_attr, text_of}
use Rattle.nodes.specs.Stands.{Stands, lacks, stands}
use Rattle.tracks.specs.EventElements.{value_at, stands_at}
use Rattle.tracks.specs.Typed.{IsNumber}

-- ---- digits

after_least : (n : ℕ) (l : List ℕ) → n ≤ decimal_after n l
unfolding decimal_after
after_least n [] = omega arith
after_least n (b ∷ l) = let k = after_least (n * 10 + (b - code "0")) l in omega arith

module _ (x : List ℕ) (n i : ℕ) (l : Left x n i) (k : IsNumber x) where
  pub so_far : n < 10000
  so_far = let a = after_least n (drop i x) in let b = l.value in let c = k.small in omega arith

  pub digit_at : i < length x → is_digit (get_or x i 0) ≡ true
  digit_at h = and_left (is_digit (get_or x i 0)) (all is_digit (drop (i + 1) x)) (sym (l.digits ∙ all_step is_digit x i h) ∙ k.digits)

  pub all_read : length x ≤ i → n ≡ decimal x
  all_read h = rw k.digits at (left_end x n i l h)

-- ---- the parts of a date

few : (t : List ℕ) → all is_digit t ≡ true → length t ≤ 4 → IsNumber t
few t e h = record { digits = e; small = omega (arith, digits_below t e, pow-le-pow_right {n = 10} (omega arith) h) }

pub record DateParts (x : List ℕ) : Type 0 where
  pub long : length x ≡ 10
  pub year : IsNumber (year_text x)
  pub month : IsNumber (month_text x)
  pub day : IsNumber (day_text x)
  pub real : real_day (decimal (year_text x)) (decimal (month_text x)) (decimal (day_text x)) ≡ true

pub date_parts : (x : List ℕ) → is_date x ≡ true → DateParts x
unfolding is_date
date_parts x e =
    let f = and_left (has_date_form x) _ e in
    let y = and_right (eqb (length x) 10) _ f in
    let m = and_right (eqb (get_or x 4 0) (code "-")) _ (and_right (all is_digit (year_text x)) _ y) in
    let d = and_right (eqb (get_or x 7 0) (code "-")) _ (and_right (all is_digit (month_text x)) _ m) in
    record {
      long = eqb-true (length x) 10 (and_left (eqb (length x) 10) _ f);
      year = few (year_text x) (and_left (all is_digit (year_text x)) _ y) (simp length-take (omega arith));
      month = few (month_text x) (and_left (all is_digit (month_text x)) _ m) (simp length-take (omega arith));
      day = few (day_text x) d (simp length-take (omega arith));
      real = and_right (has_date_form x) _ e;
    }

module _ (x : List ℕ) (p : DateParts x) {y m d : ℕ} (ey : y ≡ decimal (year_text x)) (em : m ≡ decimal (month_text x)) (ed : d ≡ decimal (day_text x)) where
  pub real_read : real_day y m d ≡ true
  real_read = rw (ey, em, ed) p.real

  pub day_read : day_number y m d ≡ day_of x
  unfolding day_of
  day_read = rw (ey, em, ed)

-- ---- an attribute whose name may be empty

module _ (x : List ℕ) (t : Tree) where
  pub nameless : true ≡ eqb (length x) 0 → (value_at x t ≡ []) × (stands_at x t ≡ false)
  nameless e = go x e
    where
      go : (y : List ℕ) → true ≡ eqb (length y) 0 → (value_at y t ≡ []) × (stands_at y t ≡ false)
      go [] e = (refl, refl)
      go (b ∷ y) e = let z = eqb-true (length (b ∷ y)) 0 (sym e) in absurd (omega arith)

  pub named : false ≡ eqb (length x) 0 → (value_at x t ≡ attr_of x t) × (stands_at x t ≡ has_attr x t)
  named h = go x h
    where
      go : (y : List ℕ) → false ≡ eqb (length y) 0 → (value_at y t ≡ attr_of y t) × (stands_at y t ≡ has_attr y t)
      go [] h = never cc
      go (b ∷ y) h = (refl, refl)

-- ---- what is missing

pub no_number : (x : List ℕ) → x ≡ [] → 0 ≡ decimal x
unfolding decimal_after
no_number x e = rw e

pub no_text : {d : ℕ} {l : List ℕ} {t : Tree} → d ≡ 0 → Stands d l t → 0 ≡ decimal (text_of t)
unfolding decimal_after element
no_text z (lacks a b) = rw b
no_text z (stands m e) = let g = rw z at e in never cc
