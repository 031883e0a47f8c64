-- The library's words for the tests of lists: what its iterators and `==` answer, in ours.
use Prim.Native.Nat.{ℕ}
use mathlib.Core.Path.{◌≡◌, refl, ap, ◌∙◌}
use mathlib.Core.Bool.{Bool, true, false, ◌&&◌, ◌||◌, and_assoc, or_assoc}
use mathlib.Core.List.{List, [], ◌∷◌}
use lib.Dec.{eqb}
use Rattle.std.specs.List.{list_all, list_any, fold}
use Rattle.std.specs.Prelude.{nat_eq}
use Rattle.std.specs.Cmp.Lexicographic.{pointwise}
use Rattle.laws.specs.Lists.{all, any, same}

module _ {A : Type 0} (p : A → Bool) where
  pub all_is : (l : List A) → list_all p l ≡ all p l
  unfolding all
  all_is [] = refl
  all_is (x ∷ l) = ap (λ (b : Bool). p x && b) (all_is l)

  pub any_is : (l : List A) → list_any p l ≡ any p l
  unfolding any
  any_is [] = refl
  any_is (x ∷ l) = ap (λ (b : Bool). p x || b) (any_is l)

  fold_all_from : (b : Bool) (l : List A) → fold (λ a x. a && p x) b l ≡ b && all p l
  unfolding all
  fold_all_from true [] = refl
  fold_all_from false [] = refl
  fold_all_from b (x ∷ l) = fold_all_from (b && p x) l ∙ and_assoc b (p x) (all p l)

  -- a fold with no early way out
  pub fold_all : (l : List A) → fold (λ a x. a && p x) true l ≡ all p l
  fold_all l = fold_all_from true l

  fold_any_from : (b : Bool) (l : List A) → fold (λ a x. a || p x) b l ≡ b || any p l
  unfolding any
  fold_any_from true [] = refl
  fold_any_from false [] = refl
  fold_any_from b (x ∷ l) = fold_any_from (b || p x) l ∙ or_assoc b (p x) (any p l)

  pub fold_any : (l : List A) → fold (λ a x. a || p x) false l ≡ any p l
  fold_any l = fold_any_from false l

-- what `==` of two slices of numbers answers
pub same_is : (s t : List ℕ) → pointwise nat_eq s t ≡ same s t
unfolding same
same_is [] [] = refl
same_is [] (b ∷ t) = refl
same_is (a ∷ s) [] = refl
same_is (a ∷ s) (b ∷ t) = ap (λ (x : Bool). eqb a b && x) (same_is s t)
