-- The year of a day.
use Prim.Native.Nat.{ℕ, zero, suc, min, ◌+◌, ◌-◌, ◌*◌, ◌/◌, ◌≤◌, ◌<◌}
use mathlib.Core.Path.{◌≡◌, refl, sym, ap, ◌∙◌}
use native.Mathlib.Omega.{arith}
use mathlib.Core.Bool.{Bool, true, false}
use lib.Dec.{leb}
use borrow.Author.Tests.{le-leb, lt-leb, leb-true, leb-false}
use Rattle.days.specs.DayNumbers.{month_length, month_of, length_of, first_of, day_number, years_to, year_of}
use Rattle.days.proofs.Months.{first_mono, first_next, month_length_lem, years_long, RealDay}

-- year j has begun on day n
pub years_yes : (j n : ℕ) → first_of (12 * suc j) ≤ n → years_to (suc j) n ≡ suc j
unfolding years_to
years_yes j n h = simp (le-leb (first_of (12 * suc j)) n h)

-- it has not
pub years_not : (j n : ℕ) → n < first_of (12 * suc j) → years_to (suc j) n ≡ years_to j n
unfolding years_to
years_not j n h = simp (lt-leb (first_of (12 * suc j)) n h)

pub years_none : (n : ℕ) → years_to 0 n ≡ 0
unfolding years_to
years_none n = refl

-- years that have not begun do not count
pub years_past : (j d n : ℕ) → n < first_of (12 * suc j) → years_to (j + d) n ≡ years_to j n
years_past j zero n h = ap (λ (k : ℕ). years_to k n) (omega arith)
years_past j (suc d) n h =
    let e : j + suc d ≡ suc (j + d) = omega arith in
    rw e (years_not (j + d) n (omega (arith, first_mono (12 * suc j) (12 * suc (j + d)) (omega arith))) ∙ years_past j d n h)

-- the search: where it starts, a step down to year k - 1, and where it stops
pub search_start : (n k : ℕ) → k ≡ min (n / 365) 199 → years_to 199 n ≡ years_to k n
search_start n k e =
    let g : 199 ≡ k + (199 - k) = omega arith in
    ap (λ (x : ℕ). years_to x n) g ∙ go (leb 199 (n / 365)) refl
  where
    go : (b : Bool) → leb 199 (n / 365) ≡ b → years_to (k + (199 - k)) n ≡ years_to k n
    go true h = let l = leb-true 199 (n / 365) h in ap (λ (x : ℕ). years_to x n) (omega arith)
    go false h = years_past k (199 - k) n (omega (arith, years_long (suc k), leb-false 199 (n / 365) h))

module _ (k n first : ℕ) (some : 0 < k) (inv : years_to 199 n ≡ years_to k n) (is : first ≡ first_of (12 * (k - 1 + 1))) where
  here : years_to 199 n ≡ years_to (suc (k - 1)) n
  here = inv ∙ ap (λ (x : ℕ). years_to x n) (omega arith)

  begins : first ≡ first_of (12 * suc (k - 1))
  begins = is ∙ ap (λ (x : ℕ). first_of (12 * x)) (omega arith)

  pub search_down : n < first → years_to 199 n ≡ years_to (k - 1) n
  search_down h = here ∙ years_not (k - 1) n (omega (arith, begins))

  pub search_found : first ≤ n → 1901 + (k - 1) ≡ year_of n
  search_found h = omega (arith, here ∙ years_yes (k - 1) n (omega (arith, begins)))

pub search_end : (k n : ℕ) → k ≡ 0 → years_to 199 n ≡ years_to k n → 1900 ≡ year_of n
search_end k n e inv = ap (λ (x : ℕ). 1900 + x) (sym (inv ∙ ap (λ (x : ℕ). years_to x n) e ∙ years_none n))

-- the year of a day is the one that it lies in
pub year_is : (j n : ℕ) → j ≤ 199 → first_of (12 * j) ≤ n → n < first_of (12 * suc j) → year_of n ≡ 1900 + j
year_is j n b h k =
    let e : 199 ≡ j + (199 - j) = omega arith in
    ap (λ (x : ℕ). 1900 + x) (ap (λ (x : ℕ). years_to x n) e ∙ years_past j (199 - j) n k ∙ here j h)
  where
    here : (j : ℕ) → first_of (12 * j) ≤ n → years_to j n ≡ j
    here zero h = years_none n
    here (suc j) h = years_yes j n h

-- a date's year is the year of its day number
pub year_of_date : (y m d : ℕ) → RealDay y m d → year_of (day_number y m d) ≡ y
year_of_date y m d r =
    let k : ℕ = month_of y m in
    let l : first_of (12 * (y - 1900)) ≤ first_of k = first_mono (12 * (y - 1900)) k (omega arith) in
    let u : first_of (k + 1) ≤ first_of (12 * suc (y - 1900)) = first_mono (k + 1) (12 * suc (y - 1900)) (omega arith) in
    let e : length_of k ≡ month_length y m = month_length_lem y m r.from r.low r.high in
    year_is (y - 1900) (day_number y m d) (omega arith) (omega arith) (omega (arith, first_next k)) ∙ omega arith
