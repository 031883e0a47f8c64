-- The last of the rows that passes a test, by the place at which it stands, and a case's row by how many cases have a smaller key.
use Prim.Native.Nat.{ℕ, zero, suc, ◌+◌, ◌≤◌, ◌<◌}
use mathlib.Core.Path.{◌≡◌, refl, sym, ap, ◌∙◌}
use mathlib.Core.Bool.{Bool, true, false, cond, false≢true}
use mathlib.Core.List.{[], ◌∷◌}
use mathlib.Core.Option.{none, some}
use native.Mathlib.Omega.{arith}
use lib.Dec.{ltb}
use lib.ListN.{length}
use borrow.Author.Tests.{lt-ltb, le-ltb}
use Rattle.laws.proofs.Order.{Tri, below, equal, above, tri}
use Rattle.model.specs.Map.{Row, Map, Asc, find, has, keep, is_some, or_else, last_of}
use Rattle.model.proofs.MapLaws.{find_below}
use Rattle.register.specs.State.{from}

-- ---- the last that passes

module _ (p : Row ℕ → Bool) (f : ℕ → Row ℕ) where
  pub last_none : (i k : ℕ) → ((j : ℕ) → i ≤ j → j < i + k → p (f j) ≡ false) → last_of p (from f i k) ≡ none
  unfolding last_of from
  last_none i zero h = refl
  last_none i (suc k) h = rw (last_none (suc i) k (λ j a b. h j (omega arith) (omega arith)), h i (omega arith) (omega arith))

  pub last_at : (i k q : ℕ) → i ≤ q → q < i + k → p (f q) ≡ true → ((j : ℕ) → q < j → j < i + k → p (f j) ≡ false) → last_of p (from f i k) ≡ some (f q)
  unfolding last_of from
  last_at i zero q a b t h = absurd (omega arith)
  last_at i (suc k) q a b t h = go (λ l. last_at (suc i) k q l (omega arith) t (λ j x y. h j x (omega arith))) (tri i q)
    where
      go : (suc i ≤ q → last_of p (from f (suc i) k) ≡ some (f q)) → Tri i q → or_else (last_of p (from f (suc i) k)) (cond (p (f i)) (some (f i)) none) ≡ some (f q)
      go ih (below l _ _) = rw (ih l)
      go ih (equal l _ _) =
          rw (last_none (suc i) k (λ j x y. h j (omega arith) (omega arith)))
          (ap (λ (j : ℕ). cond (p (f j)) (some (f j)) none) l ∙ rw t)
      go ih (above l _ _) = absurd (omega arith)

-- ---- the row of a key

-- none of the rows from b on has a smaller key than one up to b
none_smaller : (v b : ℕ) (m : Map ℕ) → v ≤ b → Asc b m → keep (λ k. ltb k v) m ≡ []
unfolding keep Asc
none_smaller v b [] l h = refl
none_smaller v b (x ∷ m) l h = rw (le-ltb x.key v (omega arith)) (none_smaller v (suc x.key) m (omega arith) h.1)

abbrev pub smaller : ℕ → Map ℕ → ℕ
smaller v m = length (keep (λ k. ltb k v) m)

-- behind the rows with smaller keys stands the row that the key finds
pub row_found : (f : ℕ → Row ℕ) (v b i n : ℕ) → Asc b (from f i n) → has v (from f i n) ≡ true →
    (smaller v (from f i n) < n) × (find v (from f i n) ≡ some (f (i + smaller v (from f i n))).val)
unfolding from Asc find keep
row_found f v b i zero h s = absurd (false≢true s)
row_found f v b i (suc n) h s = go (from f (suc i) n) h.1 s (row_found f v (suc (f i).key) (suc i) n h.1) (tri v (f i).key)
  where
    go : (rest : Map ℕ) → Asc (suc (f i).key) rest → has v (f i ∷ rest) ≡ true → (has v rest ≡ true → (smaller v rest < n) × (find v rest ≡ some (f (suc i + smaller v rest)).val)) →
        Tri v (f i).key → (smaller v (f i ∷ rest) < suc n) × (find v (f i ∷ rest) ≡ some (f (i + smaller v (f i ∷ rest))).val)
    go rest up s ih (below l _ e) = absurd (false≢true (sym (ap is_some (find_below v (suc (f i).key) rest (omega arith) up)) ∙ (rw e at s)))
    go rest up s ih (equal l _ e) =
        let z : smaller v (f i ∷ rest) ≡ 0 = rw (le-ltb (f i).key v (omega arith)) (ap length (none_smaller v (suc (f i).key) rest (omega arith) up)) in
        let j : i ≡ i + smaller v (f i ∷ rest) = omega arith in
        (omega arith, rw e (ap (λ (k : ℕ). some (f k).val) j))
    go rest up s ih (above l _ e) =
        let it = ih (rw e at s) in
        let z : smaller v (f i ∷ rest) ≡ suc (smaller v rest) = rw (lt-ltb (f i).key v l) in
        let j : suc i + smaller v rest ≡ i + smaller v (f i ∷ rest) = omega arith in
        (omega (arith, it.0), rw e (it.1 ∙ ap (λ (k : ℕ). some (f k).val) j))
