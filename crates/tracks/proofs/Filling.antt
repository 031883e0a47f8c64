-- Parts of a text by its first place, and a text filled up with zeros.
use Prim.Native.Nat.{ℕ, ◌+◌, ◌-◌, min}
use mathlib.Core.Path.{◌≡◌, ap, ◌∙◌}
use mathlib.Core.List.{List, [], ◌∷◌, ◌++◌}
use native.Mathlib.Omega.{arith}
use lib.ListN.{length, take, drop, length-take, length-drop}
use Rattle.markup.specs.View.{part, held}
use Rattle.home_care.specs.Record.{padded}

part_length : (s : List ℕ) (a e : ℕ) → held s a e → length (part s a e) ≡ e - a
part_length s a e h = simp (length-take, length-drop) (omega arith)

-- a text of n bytes that begins at a
pub by_place : (s : List ℕ) (a e n : ℕ) {t : List ℕ} → held s a e → part s a e ≡ t → length t ≡ n → part s a (a + n) ≡ t
by_place s a e n h p l =
    let k = part_length s a e h in
    let q = ap length p in
    let w : a + n ≡ e = omega arith in
    ap (λ (e : ℕ). part s a e) w ∙ p

pub filled_up : (x : List ℕ) (n : ℕ) → n ≡ min (length x) 5 → take n x ++ drop n (0 ∷ 0 ∷ 0 ∷ 0 ∷ 0 ∷ []) ≡ padded x
filled_up [] n e = let z : n ≡ 0 = omega arith in rw z
filled_up (a ∷ []) n e = let z : n ≡ 1 = omega arith in rw z
filled_up (a ∷ b ∷ []) n e = let z : n ≡ 2 = omega arith in rw z
filled_up (a ∷ b ∷ c ∷ []) n e = let z : n ≡ 3 = omega arith in rw z
filled_up (a ∷ b ∷ c ∷ d ∷ []) n e = let z : n ≡ 4 = omega arith in rw z
filled_up (a ∷ b ∷ c ∷ d ∷ f ∷ x) n e = let z : n ≡ 5 = omega arith in rw z
