-- A list from a place on: the byte that stands there, and what the tests of lists say of it.
use Prim.Native.Nat.{ℕ, suc, ◌+◌, ◌<◌, ◌≤◌}
use mathlib.Core.Path.{◌≡◌, refl, sym, ap, ◌∙◌}
use mathlib.Core.List.{List, [], ◌∷◌}
use mathlib.Core.Bool.{Bool, true, false, ◌&&◌, true≢false, false≢true}
use native.Mathlib.Nat.{add-zero, lt_of_not-le}
use lib.ListN.{length, drop, get_or, drop_of_length-le, get_or-eq_default}
use lib.Seq.{get_or-drop}
use Rattle.std.proofs.lemmas.List.{drop_more}
use lib.Dec.{eqb}
use borrow.Author.Tests.{eq-eqb, ne_eqb}
use Rattle.laws.specs.Lists.{all, same}

pub front : (s : List ℕ) (at : ℕ) → at < length s → drop at s ≡ get_or s at 0 ∷ drop (at + 1) s
front s at h = drop_more s at 0 h

pub first : (s : List ℕ) (at : ℕ) → get_or (drop at s) 0 0 ≡ get_or s at 0
first s at = rw (get_or-drop, add-zero)

-- what 0 does not pass, and the byte at a place does, stands within the list
pub inside : (p : ℕ → Bool) (s : List ℕ) (at : ℕ) → p 0 ≡ false → p (get_or s at 0) ≡ true → at < length s
inside p s at z h = lt_of_not-le (λ past. true≢false (sym h ∙ ap p (get_or-eq_default s 0 past) ∙ z))

pub byte_inside : (s : List ℕ) (at b k : ℕ) → eqb 0 k ≡ false → b ≡ get_or s at 0 → b ≡ k → at < length s
byte_inside s at b k z h e = inside (λ x. eqb x k) s at z (eq-eqb (get_or s at 0) k (sym h ∙ e))

pub all_step : (p : ℕ → Bool) (s : List ℕ) (at : ℕ) → at < length s → all p (drop at s) ≡ (p (get_or s at 0) && all p (drop (at + 1) s))
unfolding all
all_step p s at h = rw (front s at h)

pub all_end : (p : ℕ → Bool) (s : List ℕ) (at : ℕ) → length s ≤ at → all p (drop at s) ≡ true
unfolding all
all_end p s at h = rw (drop_of_length-le s h)

module _ (s t : List ℕ) (i : ℕ) (h : i < length s) (k : i < length t) where
  same_at : same (drop i s) (drop i t) ≡ (eqb (get_or s i 0) (get_or t i 0) && same (drop (i + 1) s) (drop (i + 1) t))
  unfolding same
  same_at = rw (front s i h, front t i k)

  pub same_no : (get_or s i 0 ≡ get_or t i 0 → ⊥) → false ≡ same (drop i s) (drop i t)
  same_no e = rw (same_at, ne_eqb (get_or s i 0) (get_or t i 0) e)

  pub same_yes : get_or s i 0 ≡ get_or t i 0 → same (drop i s) (drop i t) ≡ same (drop (i + 1) s) (drop (i + 1) t)
  same_yes e = rw (same_at, eq-eqb (get_or s i 0) (get_or t i 0) e)

pub same_end : (s t : List ℕ) (i : ℕ) → length s ≤ i → length t ≤ i → true ≡ same (drop i s) (drop i t)
unfolding same
same_end s t i h k = rw (drop_of_length-le s h, drop_of_length-le t k)

pub same_length : (s t : List ℕ) → same s t ≡ true → length s ≡ length t
unfolding same
same_length [] [] e = refl
same_length [] (b ∷ bs) e = absurd (false≢true e)
same_length (a ∷ aa) [] e = absurd (false≢true e)
same_length (a ∷ aa) (b ∷ bs) e = go (eqb a b) (same_length aa bs) e
  where
    go : (t : Bool) → (same aa bs ≡ true → length aa ≡ length bs) → (t && same aa bs) ≡ true → suc (length aa) ≡ suc (length bs)
    go true h e = ap suc (h e)
    go false h e = absurd (false≢true e)

pub different : (s t : List ℕ) → (length s ≡ length t → ⊥) → false ≡ same s t
different s t h = go (same s t) refl
  where
    go : (b : Bool) → same s t ≡ b → false ≡ b
    go true e = absurd (h (same_length s t e))
    go false e = refl
