-- The ranges of a table from one on, and numbers that they do not tell apart.
use Prim.Native.Nat.{ℕ, suc, ◌+◌, ◌-◌, ◌*◌, ◌<◌, ◌≤◌}
use mathlib.Core.Path.{◌≡◌}
use mathlib.Core.Logic.{inl, inr}
use mathlib.Core.Bool.{true, false, ◌&&◌, ◌||◌}
use mathlib.Core.List.{List}
use native.Mathlib.Omega.{arith}
use native.Mathlib.Nat.{add-zero, sub-zero}
use lib.Dec.{leb}
use lib.ListN.{get_or}
use borrow.Author.Tests.{lt-leb}
use Rattle.laws.specs.Lists.{any}
use Rattle.laws.proofs.Truth.{and-false}
use Rattle.codes.specs.CodesAndCharacters.{Range, in_ranges}
use Rattle.schema.specs.Table.{ranges_at}
use Rattle.schema.specs.View.{Near}

pub near_test : (a b x y : ℕ) → b < 65536 → Near x y → (leb a x && leb x b) ≡ (leb a y && leb y b)
near_test a b x y h (inl e) = rw e
near_test a b x y h (inr e) =
    let p : leb x b ≡ false = lt-leb x b (omega arith) in
    let q : leb y b ≡ false = lt-leb y b (omega arith) in
    rw (p, q, and-false (leb a x), and-false (leb a y))

-- a count less what is passed
pub one_left : (n k : ℕ) → k < n → n - k ≡ suc (n - (k + 1))
one_left n k h = omega arith

pub none_left : (n k : ℕ) → n ≤ k → n - k ≡ 0
none_left n k h = omega arith

module _ (t p ranges : List ℕ) (first n : ℕ) where
  -- k ranges are passed
  abbrev pub ranges_from : ℕ → List Range
  ranges_from k = ranges_at t p ranges (first + k) (n - k)

  pub ranges_start : ranges_at t p ranges first n ≡ ranges_from 0
  ranges_start = rw (add-zero first, sub-zero n)

  pub ranges_end : (k y : ℕ) → n ≤ k → in_ranges (ranges_from k) y ≡ false
  unfolding ranges_at any
  ranges_end k y h = rw (none_left n k h)

  module _ (k x y : ℕ) {a b : ℕ} (h : k < n) (u : a ≡ get_or ranges (2 * (first + k)) 0) (v : b ≡ get_or ranges (2 * (first + k) + 1) 0) (small : b < 65536) (near : Near x y) where
    turn : in_ranges (ranges_from k) y ≡ ((leb a x && leb x b) || in_ranges (ranges_from (k + 1)) y)
    unfolding ranges_at any
    turn =
        let e : suc (first + k) ≡ first + (k + 1) = omega arith in
        rw (one_left n k h, ← u, ← v, e, near_test a b x y small near)

    pub ranges_hit : (leb a x && leb x b) ≡ true → true ≡ in_ranges (ranges_from k) y
    ranges_hit e = rw (turn, e)

    pub ranges_pass : (leb a x && leb x b) ≡ false → in_ranges (ranges_from k) y ≡ in_ranges (ranges_from (k + 1)) y
    ranges_pass e = rw (turn, e)
