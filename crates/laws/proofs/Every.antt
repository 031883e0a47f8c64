-- Tests of whole lists as facts of every element, and two tests that hold together.
use mathlib.Core.Path.{◌≡◌, refl, sym, ap₂, ◌∙◌}
use mathlib.Core.Bool.{Bool, true, false, not, ◌&&◌, ◌||◌, false≢true}
use mathlib.Core.List.{List, [], ◌∷◌, ◌++◌}
pub use Rattle.std.specs.Cmp.{both_ways as same_truth}
pub use Rattle.std.proofs.lemmas.Bool.{and_from as and_tell, or_from as or_tell, not_from_false as not_tell}
use Rattle.laws.specs.Lists.{all, any}
use Rattle.laws.proofs.Truth.{or_left, or_right, and_left, and_right}

abbrev pub Every : {A : Type 0} → (A → Type 0) → List A → Type 0
Every P [] = Unit {0}
Every P (x ∷ l) = P x × Every P l

module _ {A : Type 0} where
  pub every_map : {P Q : A → Type 0} (l : List A) → ((x : A) → P x → Q x) → Every P l → Every Q l
  every_map [] f h = tt
  every_map (x ∷ l) f h = (f x h.0, every_map l f h.1)

  pub every_both : {P Q R : A → Type 0} (l : List A) → ((x : A) → P x → Q x → R x) → Every P l → Every Q l → Every R l
  every_both [] f h g = tt
  every_both (x ∷ l) f h g = (f x h.0 g.0, every_both l f h.1 g.1)

-- of a list that is cut
module _ {A : Type 0} (P : A → Type 0) where
  pub every_append : (a b : List A) → Every P a → Every P b → Every P (a ++ b)
  every_append [] b h g = g
  every_append (x ∷ a) b h g = (h.0, every_append a b h.1 g)

  pub every_front : (a b : List A) → Every P (a ++ b) → Every P a
  every_front [] b h = tt
  every_front (x ∷ a) b h = (h.0, every_front a b h.1)

  pub every_at : (a : List A) (x : A) (b : List A) → Every P (a ++ x ∷ b) → P x
  every_at [] x b h = h.0
  every_at (y ∷ a) x b h = every_at a x b h.1

-- a test f of a whole list that is v where q is v at every element: `all` with true, `any` with false
module _ {A : Type 0} (v : Bool) (op : Bool → Bool → Bool) (q : A → Bool) (f : List A → Bool) (step : (x : A) (l : List A) → f (x ∷ l) ≡ op (q x) (f l)) where
  told : ((a b : Bool) → op a b ≡ v → (a ≡ v) × (b ≡ v)) → (l : List A) → f l ≡ v → Every (λ x. q x ≡ v) l
  told both [] h = tt
  told both (x ∷ l) h = let p = both (q x) (f l) (sym (step x l) ∙ h) in (p.0, told both l p.1)

  tell : f [] ≡ v → op v v ≡ v → (l : List A) → Every (λ x. q x ≡ v) l → f l ≡ v
  tell start keep [] h = start
  tell start keep (x ∷ l) h = step x l ∙ ap₂ op h.0 (tell start keep l h.1) ∙ keep

module _ {A : Type 0} (q : A → Bool) where
  -- none passes
  pub any_told : (l : List A) → any q l ≡ false → Every (λ x. q x ≡ false) l
  unfolding any
  any_told = told false ◌||◌ q (any q) (λ x l. refl) (λ a b h. (or_left a b h, or_right a b h))

  pub any_tell : (l : List A) → Every (λ x. q x ≡ false) l → any q l ≡ false
  unfolding any
  any_tell = tell false ◌||◌ q (any q) (λ x l. refl) refl refl

  -- all pass
  pub all_told : (l : List A) → all q l ≡ true → Every (λ x. q x ≡ true) l
  unfolding all
  all_told = told true ◌&&◌ q (all q) (λ x l. refl) (λ a b h. (and_left a b h, and_right a b h))

  pub all_tell : (l : List A) → Every (λ x. q x ≡ true) l → all q l ≡ true
  unfolding all
  all_tell = tell true ◌&&◌ q (all q) (λ x l. refl) refl refl

-- where the first holds, the second does not
pub nand_told : (a b : Bool) → not (a && b) ≡ true → a ≡ true → b ≡ false
nand_told true true h e = sym h
nand_told true false h e = refl
nand_told false b h e = absurd (false≢true e)

pub both_false : (a b : Bool) → (a ≡ true → b ≡ false) → a && b ≡ false
both_false true b h = h refl
both_false false b h = refl
