-- The first days of months: they rise by the months' lengths.
use Prim.Native.Nat.{ℕ, zero, suc, ◌+◌, ◌-◌, ◌*◌, ◌/◌, ◌%◌, ◌≤◌, ◌<◌}
use mathlib.Core.Path.{◌≡◌, refl, sym, ap, ◌∙◌}
use mathlib.Core.Bool.{Bool, true, false, cond, ◌&&◌}
use mathlib.Core.List.{[], ◌∷◌}
use native.Mathlib.Numerals.{add-one}
use native.Mathlib.Omega.{arith}
use lib.Dec.{leb}
use lib.ListN.{get_or, get_or-eq_default}
use borrow.Author.Tests.{leb-true, le-leb}
use Rattle.laws.specs.Lists.{all}
use Rattle.laws.proofs.Lists.{all_at}
use Rattle.laws.proofs.Truth.{and_left, and_right}
use Rattle.days.specs.DayNumbers.{is_leap, month_length, month_of, length_of, first_of, real_day}

pub first_next : (k : ℕ) → first_of (k + 1) ≡ first_of k + length_of k
unfolding first_of
first_next k = rw (add-one k)

pub first_rises : (k n : ℕ) → first_of k ≤ first_of (k + n)
unfolding first_of
first_rises k zero = let e : k + 0 ≡ k = omega arith in rw e (omega arith)
first_rises k (suc n) =
    let e : k + suc n ≡ suc (k + n) = omega arith in
    rw e (omega (arith, first_rises k n))

pub first_mono : (j k : ℕ) → j ≤ k → first_of j ≤ first_of k
first_mono j k h =
    let e : k ≡ j + (k - j) = omega arith in
    rw e (first_rises j (k - j))

-- only February's length depends on the year
pub not_february : (c d i : ℕ) → (i ≡ 2 → ⊥) → get_or (0 ∷ 31 ∷ c ∷ 31 ∷ 30 ∷ 31 ∷ 30 ∷ 31 ∷ 31 ∷ 30 ∷ 31 ∷ 30 ∷ 31 ∷ []) i 0 ≡ get_or (0 ∷ 31 ∷ d ∷ 31 ∷ 30 ∷ 31 ∷ 30 ∷ 31 ∷ 31 ∷ 30 ∷ 31 ∷ 30 ∷ 31 ∷ []) i 0
not_february c d zero f = refl
not_february c d (suc zero) f = refl
not_february c d (suc (suc zero)) f = absurd (f refl)
not_february c d (suc (suc (suc i))) f = refl

pub past_december : (y m : ℕ) → 12 < m → 0 ≡ month_length y m
past_december y m h =
    sym (get_or-eq_default (0 ∷ 31 ∷ cond (is_leap y) 29 28 ∷ 31 ∷ 30 ∷ 31 ∷ 30 ∷ 31 ∷ 31 ∷ 30 ∷ 31 ∷ 30 ∷ 31 ∷ []) 0 h)

-- a month has 28 to 31 days
abbrev usual : ℕ → Bool
usual n = leb 28 n && leb n 31

lengths_usual : (b : Bool) → all usual (31 ∷ cond b 29 28 ∷ 31 ∷ 30 ∷ 31 ∷ 30 ∷ 31 ∷ 31 ∷ 30 ∷ 31 ∷ 30 ∷ 31 ∷ []) ≡ true
unfolding all
lengths_usual true = refl
lengths_usual false = refl

pub month_between : (y m : ℕ) → 1 ≤ m → m ≤ 12 → (28 ≤ month_length y m) × (month_length y m ≤ 31)
month_between y zero l h = absurd (omega arith)
month_between y (suc i) l h =
    let n : ℕ = month_length y (suc i) in
    let u : usual n ≡ true = all_at usual _ (lengths_usual (is_leap y)) i (omega arith) in
    (leb-true 28 n (and_left (leb 28 n) (leb n 31) u), leb-true n 31 (and_right (leb 28 n) (leb n 31) u))

pub length_between : (k : ℕ) → (28 ≤ length_of k) × (length_of k ≤ 31)
length_between k = month_between (1900 + k / 12) (k % 12 + 1) (omega arith) (omega arith)

-- month k of all is month m of year y
module _ (y m : ℕ) (from : 1900 ≤ y) (low : 1 ≤ m) (high : m ≤ 12) where
  pub month_length_lem : length_of (month_of y m) ≡ month_length y m
  month_length_lem =
      let a : 1900 + (12 * (y - 1900) + (m - 1)) / 12 ≡ y = omega arith in
      let b : (12 * (y - 1900) + (m - 1)) % 12 + 1 ≡ m = omega arith in
      rw (a, b)

-- what the test of a real day tells
pub record RealDay (y m d : ℕ) : Type 0 where
  pub from : 1900 ≤ y
  pub to : y ≤ 2099
  pub low : 1 ≤ m
  pub high : m ≤ 12
  pub first : 1 ≤ d
  pub last : d ≤ month_length y m

pub real : (y m d : ℕ) → real_day y m d ≡ true → RealDay y m d
real y m d e =
    let a = and_left (leb 1900 y && leb y 2099) ((leb 1 m && leb m 12) && (leb 1 d && leb d (month_length y m))) e in
    let r = and_right (leb 1900 y && leb y 2099) ((leb 1 m && leb m 12) && (leb 1 d && leb d (month_length y m))) e in
    let b = and_left (leb 1 m && leb m 12) (leb 1 d && leb d (month_length y m)) r in
    let c = and_right (leb 1 m && leb m 12) (leb 1 d && leb d (month_length y m)) r in
    record {
      from = leb-true 1900 y (and_left (leb 1900 y) (leb y 2099) a);
      to = leb-true y 2099 (and_right (leb 1900 y) (leb y 2099) a);
      low = leb-true 1 m (and_left (leb 1 m) (leb m 12) b);
      high = leb-true m 12 (and_right (leb 1 m) (leb m 12) b);
      first = leb-true 1 d (and_left (leb 1 d) (leb d (month_length y m)) c);
      last = leb-true d (month_length y m) (and_right (leb 1 d) (leb d (month_length y m)) c);
    }

pub is_real : (y m d : ℕ) → RealDay y m d → real_day y m d ≡ true
is_real y m d r =
    simp (le-leb 1900 y r.from, le-leb y 2099 r.to, le-leb 1 m r.low, le-leb m 12 r.high, le-leb 1 d r.first, le-leb d (month_length y m) r.last)

-- a year's first day, and the next year's
module _ (j : ℕ) where
  length_at : (i : ℕ) → i < 12 → length_of (12 * j + i) ≡ month_length (1900 + j) (i + 1)
  length_at i h =
      let a : (12 * j + i) / 12 ≡ j = omega arith in
      let b : (12 * j + i) % 12 ≡ i = omega arith in
      rw (a, b)

  step : (i k : ℕ) → i < 12 → i + 1 ≡ k → first_of (12 * j + k) ≡ first_of (12 * j + i) + month_length (1900 + j) k
  step i k h e =
      let a : 12 * j + k ≡ 12 * j + i + 1 = omega arith in
      rw (a, ← e) (first_next (12 * j + i) ∙ ap (λ (x : ℕ). first_of (12 * j + i) + x) (length_at i h))

  feb : (b : Bool) → 28 ≤ cond b 29 28
  feb true = omega arith
  feb false = omega arith

  -- twelve months, of which only February's length depends on the year
  pub year_long : first_of (12 * j) + 365 ≤ first_of (12 * (j + 1))
  year_long =
      let z : 12 * j ≡ 12 * j + 0 = omega arith in
      let e : 12 * (j + 1) ≡ 12 * j + 12 = omega arith in
      rw e
      (omega (
        arith,
        ap first_of z,
        feb (is_leap (1900 + j)),
        step 0 1 (omega arith) refl,
        step 1 2 (omega arith) refl,
        step 2 3 (omega arith) refl,
        step 3 4 (omega arith) refl,
        step 4 5 (omega arith) refl,
        step 5 6 (omega arith) refl,
        step 6 7 (omega arith) refl,
        step 7 8 (omega arith) refl,
        step 8 9 (omega arith) refl,
        step 9 10 (omega arith) refl,
        step 10 11 (omega arith) refl,
        step 11 12 (omega arith) refl,
      ))

-- so a year begins 365 days or more after the one before it
pub years_long : (j : ℕ) → 365 * j ≤ first_of (12 * j)
years_long zero = omega arith
years_long (suc j) =
    let e : 12 * suc j ≡ 12 * (j + 1) = omega arith in
    rw e (omega (arith, year_long j, years_long j))
