-- Digits read one after the other: what is left gives the same as the whole.
use Prim.Native.Nat.{ℕ, ◌+◌, ◌-◌, ◌*◌, ◌^◌, ◌≤◌, ◌<◌}
use Prim.Native.Char.{code}
use mathlib.Core.Path.{◌≡◌, refl, ◌∙◌}
use mathlib.Core.Bool.{true, false, cond}
use mathlib.Core.List.{List}
use native.Mathlib.Omega.{arith}
use native.Mathlib.Nat.{pow-suc, pow-le-pow_right}
use native.Mathlib.Numerals.{add-one}
use lib.Dec.{leb}
use lib.ListN.{length, drop, get_or, drop_of_length-le}
use borrow.Author.Tests.{leb-true}
use Rattle.laws.proofs.Truth.{and_left, and_right}
use Rattle.laws.specs.Decimal.{is_digit, decimal_after, decimal}
use Rattle.laws.specs.Lists.{all}
use Rattle.laws.proofs.Places.{front, all_step, all_end}

-- after i digits of w, which write n
pub record Left (w : List ℕ) (n i : ℕ) : Type 0 where
  pub within : i ≤ length w
  pub digits : all is_digit w ≡ all is_digit (drop i w)
  pub value : decimal w ≡ decimal_after n (drop i w)

pub left_start : (w : List ℕ) → Left w 0 0
left_start w = record { within = omega arith; digits = refl; value = refl }

module _ (w : List ℕ) (n i : ℕ) (l : Left w n i) where
  pub left_next : (b : ℕ) → i < length w → b ≡ get_or w i 0 → is_digit b ≡ true → Left w (n * 10 + (b - code "0")) (i + 1)
  unfolding decimal_after
  left_next b h e d =
      record {
        within = omega arith;
        digits = l.digits ∙ all_step is_digit w i h ∙ simp (← e, d);
        value = l.value ∙ rw (front w i h, ← e);
      }

  pub left_bad : (b : ℕ) → i < length w → b ≡ get_or w i 0 → is_digit b ≡ false → 0 ≡ cond (all is_digit w) (decimal w) 0
  left_bad b h e d =
      let a : all is_digit w ≡ false = l.digits ∙ all_step is_digit w i h ∙ simp (← e, d) in
      rw a

  pub left_end : length w ≤ i → n ≡ cond (all is_digit w) (decimal w) 0
  unfolding decimal_after
  left_end h =
      let a : all is_digit w ≡ true = l.digits ∙ all_end is_digit w i h in
      let v : decimal w ≡ n = l.value ∙ rw (drop_of_length-le w h) in
      rw (a, v)

-- a digit more keeps a number below the next power
pub grows : (n d i : ℕ) → n < 10 ^ i → d < 10 → n * 10 + d < 10 ^ (i + 1)
grows n d i h k = rw (add-one i, pow-suc 10 i) (omega arith)

pub at_most_four : (n i : ℕ) → n < 10 ^ i → i ≤ 4 → n < 10000
at_most_four n i h k = omega (arith, pow-le-pow_right {n = 10} (omega arith) k)

pub digit_between : (b : ℕ) → is_digit b ≡ true → (code "0" ≤ b) × (b ≤ code "9")
digit_between b e = (
  leb-true (code "0") b (and_left (leb (code "0") b) (leb b (code "9")) e),
  leb-true b (code "9") (and_right (leb (code "0") b) (leb b (code "9")) e),
)
