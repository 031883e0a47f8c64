-- Digits read one after the other, with a number that stops growing, and how large the numbers are that digits write.
use Prim.Native.Nat.{ℕ, min, ◌+◌, ◌-◌, ◌*◌, ◌^◌, ◌≤◌, ◌<◌}
use Prim.Native.Char.{code}
use mathlib.Core.Path.{◌≡◌, refl, sym, ap, ◌∙◌}
use mathlib.Core.Bool.{Bool, true, false, cond}
use mathlib.Core.List.{List, [], ◌∷◌}
use native.Mathlib.Omega.{arith}
use native.Mathlib.Nat.{pow-suc, mul-le-mul_right, pow-le-pow_right}
use lib.Dec.{leb}
use lib.ListN.{length, drop, get_or, drop_of_length-le}
use borrow.Author.Tests.{le-leb, leb-true, leb-false}
use Rattle.laws.specs.Decimal.{is_digit, decimal_after, decimal}
use Rattle.laws.specs.Lists.{all}
use Rattle.laws.proofs.Places.{front}
use Rattle.laws.proofs.Truth.{and_left, and_right}
use Rattle.std.proofs.lemmas.Grind.{common_steps}
use Rattle.codes.specs.Capped.{up_to}

module _ (most : ℕ) where
  pub up_to_low : (n : ℕ) → n ≤ most → up_to most n ≡ n
  up_to_low n h = rw (le-leb n most h)

  pub up_to_high : (n : ℕ) → most ≤ n → up_to most n ≡ most
  up_to_high n h = go (leb n most) refl
    where
      go : (b : Bool) → leb n most ≡ b → cond b n most ≡ most
      go true e = let l = leb-true n most e in omega arith
      go false e = refl

  pub up_to_le : (n : ℕ) → up_to most n ≤ most
  up_to_le n = go (leb n most) refl
    where
      go : (b : Bool) → leb n most ≡ b → cond b n most ≤ most
      go true e = leb-true n most e
      go false e = omega arith

  -- the library's word for it
  pub min_is : (n : ℕ) → min n most ≡ up_to most n
  min_is n = grind (arith, common_steps)

  -- a number that stopped growing is as good as the whole
  goes_on : (n d : ℕ) → up_to most (up_to most n * 10 + d) ≡ up_to most (n * 10 + d)
  goes_on n d = go (leb n most) refl
    where
      go : (b : Bool) → leb n most ≡ b → up_to most (cond b n most * 10 + d) ≡ up_to most (n * 10 + d)
      go true e = refl
      go false e = let l = leb-false n most e in up_to_high (most * 10 + d) (omega arith) ∙ sym (up_to_high (n * 10 + d) (omega arith))

  up_to_after : (n : ℕ) (l : List ℕ) → up_to most (decimal_after (up_to most n) l) ≡ up_to most (decimal_after n l)
  unfolding decimal_after
  up_to_after n [] = up_to_low (up_to most n) (up_to_le n)
  up_to_after n (b ∷ l) =
      let d = b - code "0" in
      sym (up_to_after (up_to most n * 10 + d) l) ∙ ap (λ (k : ℕ). up_to most (decimal_after k l)) (goes_on n d) ∙ up_to_after (n * 10 + d) l

  -- a loop over the text x, after i bytes
  module _ (x : List ℕ) (n i : ℕ) where
    pub digits_on : (d : ℕ) → i < length x → d ≡ get_or x i 0 - code "0"
        → up_to most (decimal_after (up_to most (n * 10 + d)) (drop (i + 1) x)) ≡ up_to most (decimal_after n (drop i x))
    unfolding decimal_after
    digits_on d h e =
        let q : decimal_after n (drop i x) ≡ decimal_after (n * 10 + (get_or x i 0 - code "0")) (drop (i + 1) x) = rw (front x i h) in
        up_to_after (n * 10 + d) (drop (i + 1) x) ∙ ap (λ (k : ℕ). up_to most (decimal_after (n * 10 + k) (drop (i + 1) x))) e ∙ ap (λ (k : ℕ). up_to most k) (sym q)

    pub digits_over : length x ≤ i → n ≤ most → n ≡ up_to most (decimal_after n (drop i x))
    unfolding decimal_after
    digits_over h k = sym (rw (drop_of_length-le x h) (up_to_low n k))

-- so many digits write a number below that power of ten
digits_after : (n : ℕ) (t : List ℕ) → all is_digit t ≡ true → decimal_after n t < (n + 1) * 10 ^ length t
unfolding all decimal_after
digits_after n [] e = omega arith
digits_after n (b ∷ t) e =
    let d = and_left (is_digit b) (all is_digit t) e in
    let z = leb-true b (code "9") (and_right (leb (code "0") b) (leb b (code "9")) d) in
    let s = b - code "0" in
    let i = digits_after (n * 10 + (b - code "0")) t (and_right (is_digit b) (all is_digit t) e) in
    let l : n * 10 + (b - code "0") + 1 ≤ n * 10 + 10 = omega arith in
    let m = mul-le-mul_right (10 ^ length t) l in
    rw (pow-suc 10 (length t)) (omega arith)

pub digits_below : (t : List ℕ) → all is_digit t ≡ true → decimal t < 10 ^ length t
digits_below t e = omega (arith, digits_after 0 t e)

-- at most four digits are the whole number
pub four_digits : (t : List ℕ) → all is_digit t ≡ true → length t ≤ 4 → up_to 9999 (decimal t) ≡ decimal t
four_digits t e h = up_to_low 9999 (decimal t) (omega (arith, digits_below t e, pow-le-pow_right {n = 10} (omega arith) h))
