-- A prevalente that is well read, padded as a row holds it: characters, then zeros; and 13 says the same of both.
use Prim.Native.Nat.{ℕ, zero, suc, ◌≤◌}
use mathlib.Core.Path.{◌≡◌, refl}
use mathlib.Core.Bool.{Bool, true, false, ◌&&◌, ◌||◌, false≢true}
use mathlib.Core.List.{List, [], ◌∷◌, ◌++◌}
use native.Mathlib.Omega.{arith}
use lib.Dec.{eqb}
use lib.ListN.{length, take, drop}
use borrow.Author.Tests.{ne_eqb}
use Rattle.laws.specs.Lists.{all, any, same, bytes}
use Rattle.laws.proofs.Truth.{and_left, and_right}
use Rattle.markup.specs.Bytes.{in_file, is_text}
use Rattle.home_care.specs.Record.{padded}
use Rattle.tracks.specs.WellRead.{WellPrevalente}

abbrev in_text : ℕ → Bool
in_text b = in_file b && is_text b

-- a text of three to five
data Three-to-five : List ℕ → Type 0 where
  three : (a b c : ℕ) → Three-to-five (a ∷ b ∷ c ∷ [])
  four : (a b c d : ℕ) → Three-to-five (a ∷ b ∷ c ∷ d ∷ [])
  five : (a b c d e : ℕ) → Three-to-five (a ∷ b ∷ c ∷ d ∷ e ∷ [])

by_length : (t : List ℕ) → 3 ≤ length t → length t ≤ 5 → Three-to-five t
by_length [] h k = absurd (omega arith)
by_length (a ∷ []) h k = absurd (omega arith)
by_length (a ∷ b ∷ []) h k = absurd (omega arith)
by_length (a ∷ b ∷ c ∷ []) h k = three a b c
by_length (a ∷ b ∷ c ∷ d ∷ []) h k = four a b c d
by_length (a ∷ b ∷ c ∷ d ∷ e ∷ []) h k = five a b c d e
by_length (a ∷ b ∷ c ∷ d ∷ e ∷ f ∷ t) h k = absurd (omega arith)

-- V3: "3 to 5 characters that a text may hold, then zeros"
abbrev pub filled : List ℕ → ℕ → Bool
filled p n = all (λ b. in_file b && is_text b) (take n p) && all (λ b. eqb b 0) (drop n p)

any_third : (p q r : Bool) → r ≡ true → p || (q || (r || false)) ≡ true
any_third true q r e = refl
any_third false true r e = refl
any_third false false r e = rw e

any_second : (p q r : Bool) → q ≡ true → p || (q || (r || false)) ≡ true
any_second true q r e = refl
any_second false q r e = rw e

three_filled : {t : List ℕ} → Three-to-five t → all in_text t ≡ true → any (filled (padded t)) (3 ∷ 4 ∷ 5 ∷ []) ≡ true
unfolding any all
three_filled (three a b c) h = rw h
three_filled (four a b c d) h =
    any_second (filled (a ∷ b ∷ c ∷ d ∷ 0 ∷ []) 3) (filled (a ∷ b ∷ c ∷ d ∷ 0 ∷ []) 4) (filled (a ∷ b ∷ c ∷ d ∷ 0 ∷ []) 5) (rw h)
three_filled (five a b c d e) h =
    any_third (filled (a ∷ b ∷ c ∷ d ∷ e ∷ []) 3) (filled (a ∷ b ∷ c ∷ d ∷ e ∷ []) 4) (filled (a ∷ b ∷ c ∷ d ∷ e ∷ []) 5) (rw h)

pub padded-filled : (t : List ℕ) → WellPrevalente t → any (filled (padded t)) (3 ∷ 4 ∷ 5 ∷ []) ≡ true
padded-filled t r = three_filled (by_length t r.least r.most) r.bytes

-- a byte of a text is not 0
not_zero : (b : ℕ) → in_text b ≡ true → eqb b 0 ≡ false
not_zero zero h = absurd (false≢true h)
not_zero (suc b) h = ne_eqb (suc b) 0 (λ e. omega arith)

three_same : {t : List ℕ} → Three-to-five t → all in_text t ≡ true → same (padded t) (bytes "000" ++ (0 ∷ 0 ∷ [])) ≡ same t (bytes "000")
unfolding all same
three_same (three a b c) h = refl
three_same (four a b c d) h =
    rw (not_zero d (and_left (in_text d) true (and_right (in_text c) (in_text d && true) (and_right (in_text b) (in_text c && (in_text d && true)) (and_right (in_text a) (in_text b && (in_text c && (in_text d && true))) h)))))
three_same (five a b c d e) h =
    rw (not_zero d (and_left (in_text d) (in_text e && true) (and_right (in_text c) (in_text d && (in_text e && true)) (and_right (in_text b) (in_text c && (in_text d && (in_text e && true))) (and_right (in_text a) (in_text b && (in_text c && (in_text d && (in_text e && true)))) h)))))
