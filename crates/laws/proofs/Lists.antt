-- Tests on every element of a list, and on some.
use Prim.Native.Nat.{ℕ, zero, suc, ◌<◌}
use mathlib.Core.Path.{◌≡◌, refl, sym, ap, ◌∙◌}
use mathlib.Core.Bool.{Bool, true, false, ◌&&◌, ◌||◌, or_assoc}
use mathlib.Core.List.{List, [], ◌∷◌, ◌++◌}
use native.Mathlib.Omega.{arith}
use lib.ListN.{length, get_or}
use Rattle.laws.specs.Lists.{all, any}
use Rattle.laws.proofs.Truth.{and_left, and_right, or_mix}

-- what all pass, the one at a place passes
pub all_at : (p : ℕ → Bool) (l : List ℕ) → all p l ≡ true → (i : ℕ) → i < length l → p (get_or l i 0) ≡ true
unfolding all
all_at p [] e i h = absurd (omega arith)
all_at p (x ∷ l) e zero h = and_left (p x) (all p l) e
all_at p (x ∷ l) e (suc i) h = all_at p l (and_right (p x) (all p l) e) i (omega arith)

-- of two lists, one after the other
module _ {A : Type 0} (p : A → Bool) where
  pub all_append : (a b : List A) → all p (a ++ b) ≡ (all p a && all p b)
  unfolding all
  all_append [] b = refl
  all_append (x ∷ a) b = go (p x) (all_append a b)
    where
      go : (t : Bool) → all p (a ++ b) ≡ (all p a && all p b) → (t && all p (a ++ b)) ≡ ((t && all p a) && all p b)
      go true e = e
      go false e = refl

  pub all_left : (a b : List A) → all p (a ++ b) ≡ true → all p a ≡ true
  all_left a b h = and_left (all p a) (all p b) (rw (all_append a b) at h)

  pub all_right : (a b : List A) → all p (a ++ b) ≡ true → all p b ≡ true
  all_right a b h = and_right (all p a) (all p b) (rw (all_append a b) at h)

  pub all_join : (a b : List A) → all p a ≡ true → all p b ≡ true → all p (a ++ b) ≡ true
  all_join a b h k = rw (all_append a b, h, k)

-- a test that follows from another
pub all_map : {A : Type 0} (p q : A → Bool) → ((x : A) → p x ≡ true → q x ≡ true) → (l : List A) → all p l ≡ true → all q l ≡ true
unfolding all
all_map p q f [] h = refl
all_map p q f (x ∷ l) h = rw (f x (and_left (p x) (all p l) h)) (all_map p q f l (and_right (p x) (all p l) h))

-- ---- some element

module _ {A : Type 0} (p : A → Bool) where
  pub any_append : (a b : List A) → any p (a ++ b) ≡ (any p a || any p b)
  unfolding any
  any_append [] b = refl
  any_append (x ∷ a) b = ap (λ (t : Bool). p x || t) (any_append a b) ∙ sym (or_assoc (p x) (any p a) (any p b))

  -- one test or the other
  pub any_or : (q : A → Bool) (l : List A) → any (λ x. p x || q x) l ≡ any p l || any q l
  unfolding any
  any_or q [] = refl
  any_or q (x ∷ l) = ap (λ (b : Bool). (p x || q x) || b) (any_or q l) ∙ or_mix (p x) (q x) (any p l) (any q l)
