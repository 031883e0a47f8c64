-- Tests on lists, and the last element that passes one.
use Prim.Native.Nat.{ℕ}
use mathlib.Core.Path.{◌≡◌, refl, sym, ap, ◌∙◌}
use mathlib.Core.Logic.{◌↔◌}
use mathlib.Core.Bool.{Bool, true, false, cond, not, ◌&&◌, ◌||◌}
use mathlib.Core.List.{List, [], ◌∷◌, ◌++◌}
use mathlib.Core.Option.{Option, none, some}
use native.Mathlib.Omega.{arith}
use Rattle.laws.proofs.Truth.{or_left, or_right}
use Rattle.laws.specs.Lists.{all, any}
use Rattle.model.specs.Map.{or_else, last_of}
use Rattle.model.specs.Log.{LastIs}

pub not_and : (a b : Bool) → not (a && b) ≡ not a || not b
not_and true b = refl
not_and false b = refl

-- not all pass exactly where some fail
pub not-all : {A : Type 0} (p : A → Bool) (l : List A) → not (all p l) ≡ any (λ x. not (p x)) l
unfolding all any
not-all p [] = refl
not-all p (x ∷ l) = not_and (p x) (all p l) ∙ ap (λ (b : Bool). not (p x) || b) (not-all p l)

-- tests that agree
pub any_same : {A : Type 0} (p q : A → Bool) (l : List A) → ((x : A) → p x ≡ q x) → any p l ≡ any q l
unfolding any
any_same p q [] h = refl
any_same p q (x ∷ l) h = simp (h x, any_same p q l h)

none-some : {A : Type 0} {a : A} → none ≡ some a → ⊥
none-some e = let z : ◌≡◌ {A = ℕ} 0 1 = cc in omega arith

or_else-none : {A : Type 0} (o : Option A) → o ≡ or_else o none
or_else-none none = refl
or_else-none (some a) = refl

or_else_assoc : {A : Type 0} (x y z : Option A) → or_else (or_else x y) z ≡ or_else x (or_else y z)
or_else_assoc none y z = refl
or_else_assoc (some a) y z = refl

module _ {R : Type 0} (p : R → Bool) where
  -- the last of two lists joined
  pub last_of_append : (a b : List R) → last_of p (a ++ b) ≡ or_else (last_of p b) (last_of p a)
  unfolding last_of
  last_of_append [] b = or_else-none (last_of p b)
  last_of_append (r ∷ a) b = rw (last_of_append a b) (or_else_assoc (last_of p b) (last_of p a) (cond (p r) (some r) none))

  none_last : (l : List R) → last_of p l ≡ none → any p l ≡ false
  unfolding last_of any
  none_last [] e = refl
  none_last (r ∷ l) e = go (last_of p l) (p r) refl (none_last l) refl e
    where
      go : (o : Option R) (b : Bool) → p r ≡ b → (last_of p l ≡ none → any p l ≡ false) → last_of p l ≡ o → or_else o (cond b (some r) none) ≡ none →
          p r || any p l ≡ false
      go none true c ih q e = absurd (none-some (sym e))
      go none false c ih q e = simp c (ih q)
      go (some x) b c ih q e = absurd (none-some (sym e))

  last_none : (l : List R) → any p l ≡ false → last_of p l ≡ none
  unfolding last_of any
  last_none [] h = refl
  last_none (r ∷ l) h = simp (or_left (p r) (any p l) h, last_none l (or_right (p r) (any p l) h))

  -- the function `last_of` finds the last
  pub last_of_iff : (l : List R) (r : R) → last_of p l ≡ some r ↔ LastIs p l r
  unfolding last_of
  last_of_iff l r = (
    to l,
    λ h.
        ap (λ (x : List R). last_of p x) h.list ∙
        last_of_append h.before (r ∷ h.after) ∙
        simp (last_none h.after h.none_after, h.passes),
  )
    where
      to : (l : List R) → last_of p l ≡ some r → LastIs p l r
      to [] e = absurd (none-some e)
      to (x ∷ l) e = go (last_of p l) (p x) refl (to l) refl e
        where
          go : (o : Option R) (b : Bool) → p x ≡ b → (last_of p l ≡ some r → LastIs p l r) → last_of p l ≡ o →
              or_else o (cond b (some x) none) ≡ some r → LastIs p (x ∷ l) r
          go none true c ih q e =
              let i : x ≡ r = cc in
              record { before = []; after = l; list = ap (λ (y : R). y ∷ l) i; passes = rw i at c; none_after = none_last l q }
          go none false c ih q e = absurd (none-some e)
          go (some y) b c ih q e =
              let h : LastIs p l r = ih (q ∙ e) in
              record {
                before = x ∷ h.before;
                after = h.after;
                list = ap (λ (m : List R). x ∷ m) h.list;
                passes = h.passes;
                none_after = h.none_after;
              }

  -- the last that passes does pass
  pub last_passes : (l : List R) (r : R) → last_of p l ≡ some r → p r ≡ true
  last_passes l r e = ((last_of_iff l r).0 e).passes

-- tests that agree find one last
pub last_same : {R : Type 0} (p q : R → Bool) (l : List R) → ((r : R) → p r ≡ q r) → last_of p l ≡ last_of q l
unfolding last_of
last_same p q [] h = refl
last_same p q (r ∷ l) h = simp (h r, last_same p q l h)
