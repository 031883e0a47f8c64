-- Two numbers three ways, with what the tests answer.
use Prim.Native.Nat.{ℕ, ◌≤◌, ◌<◌}
use mathlib.Core.Path.{◌≡◌, refl, sym, ◌∙◌}
use mathlib.Core.Bool.{Bool, true, false}
use native.Mathlib.Omega.{arith}
use lib.Dec.{eqb, ltb}
use borrow.Author.Tests.{ltb-true, ltb-false, eqb-true, eqb-false, eq-eqb, ne_eqb}

pub data Tri (a b : ℕ) : Type 0 where
  below : a < b → ltb a b ≡ true → eqb a b ≡ false → Tri a b
  equal : a ≡ b → ltb a b ≡ false → eqb a b ≡ true → Tri a b
  above : b < a → ltb a b ≡ false → eqb a b ≡ false → Tri a b

pub tri : (a b : ℕ) → Tri a b
tri a b = go (ltb a b) refl (eqb a b) refl
  where
    go : (p : Bool) → ltb a b ≡ p → (q : Bool) → eqb a b ≡ q → Tri a b
    go true e true f = below (ltb-true a b e) e (ne_eqb a b (λ g. let l : a < b = ltb-true a b e in omega arith))
    go true e false f = below (ltb-true a b e) e f
    go false e true f = equal (eqb-true a b f) e f
    go false e false f =
        let l : b ≤ a = ltb-false a b e in
        let n : a ≡ b → ⊥ = eqb-false a b f in
        above (omega arith) e f

pub eqb_sym : (a b : ℕ) → eqb a b ≡ eqb b a
eqb_sym a b = go (tri a b)
  where
    go : Tri a b → eqb a b ≡ eqb b a
    go (below l e f) = f ∙ sym (ne_eqb b a (λ g. omega arith))
    go (equal l e f) = f ∙ sym (eq-eqb b a (sym l))
    go (above l e f) = f ∙ sym (ne_eqb b a (λ g. omega arith))
