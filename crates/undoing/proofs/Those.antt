-- The elements of a list that pass a test.
use Prim.Native.Nat.{◌≤◌}
use mathlib.Core.Path.{◌≡◌, refl, ap}
use mathlib.Core.Bool.{Bool, true, false, cond}
use mathlib.Core.List.{List, [], ◌∷◌, map}
use native.Mathlib.Omega.{arith}
use lib.ListN.{length}
use Rattle.laws.specs.Lists.{all, any, some_pair}
use Rattle.laws.proofs.Truth.{or_left, or_right}
use Rattle.laws.proofs.Every.{Every, any_told, any_tell, all_told, all_tell, or_tell}
use Rattle.cancellation.specs.Chosen.{those}

module _ {A : Type 0} (p : A → Bool) where
  -- they are no more than the list has
  pub those_few : (l : List A) → length (those p l) ≤ length l
  unfolding those
  those_few [] = omega arith
  those_few (x ∷ l) = go (p x) (those_few l)
    where
      go : (b : Bool) → length (those p l) ≤ length l → length (cond b (x ∷ those p l) (those p l)) ≤ length (x ∷ l)
      go true h = omega arith
      go false h = omega arith

  -- each passes the test
  pub those_pass : (l : List A) → all p (those p l) ≡ true
  unfolding those all
  those_pass [] = refl
  those_pass (x ∷ l) = go (p x) refl (those_pass l)
    where
      go : (b : Bool) → p x ≡ b → all p (those p l) ≡ true → all p (cond b (x ∷ those p l) (those p l)) ≡ true
      go true e h = rw e h
      go false e h = h

  -- what every element has, each of them has
  pub every_those : (P : A → Type 0) (l : List A) → Every P l → Every P (those p l)
  unfolding those
  every_those P [] h = tt
  every_those P (x ∷ l) h = go (p x) (every_those P l h.1)
    where
      go : (b : Bool) → Every P (those p l) → Every P (cond b (x ∷ those p l) (those p l))
      go true g = (h.0, g)
      go false g = g

  -- a test that all pass, one that none passes, one that no two pass
  pub all-those : (q : A → Bool) (l : List A) → all q l ≡ true → all q (those p l) ≡ true
  all-those q l h = all_tell q (those p l) (every_those (λ x. q x ≡ true) l (all_told q l h))

  pub any-those : (q : A → Bool) (l : List A) → any q l ≡ false → any q (those p l) ≡ false
  any-those q l h = any_tell q (those p l) (every_those (λ x. q x ≡ false) l (any_told q l h))

  pub pair_those : (q : A → A → Bool) (l : List A) → some_pair q l ≡ false → some_pair q (those p l) ≡ false
  unfolding those some_pair
  pair_those q [] h = refl
  pair_those q (x ∷ l) h = go (p x) (pair_those q l (or_right (any (q x) l) (some_pair q l) h))
    where
      go : (b : Bool) → some_pair q (those p l) ≡ false → some_pair q (cond b (x ∷ those p l) (those p l)) ≡ false
      go true g = or_tell (any (q x) (those p l)) (some_pair q (those p l)) (any-those (q x) l (or_left (any (q x) l) (some_pair q l) h)) g
      go false g = g

-- of what a function makes of each element
pub those-map : {A B : Type 0} (f : A → B) (p : B → Bool) (l : List A) → those p (map f l) ≡ map f (those (λ x. p (f x)) l)
unfolding those
those-map f p [] = refl
those-map {B = B} f p (x ∷ l) = go (p (f x)) (those-map f p l)
  where
    go : (b : Bool) → those p (map f l) ≡ map f (those (λ x. p (f x)) l) →
        cond b (f x ∷ those p (map f l)) (those p (map f l)) ≡ map f (cond b (x ∷ those (λ x. p (f x)) l) (those (λ x. p (f x)) l))
    go true h = ap (λ (r : List B). f x ∷ r) h
    go false h = h
