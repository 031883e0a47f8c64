-- Ranges as the code tests them, and how large the numbers in them are.
use Prim.Native.Nat.{ℕ, ◌≤◌}
use mathlib.Core.Path.{◌≡◌, refl, ap₂, sym, ◌∙◌}
use mathlib.Core.Bool.{Bool, true, false, ◌&&◌, ◌||◌, or-false, false≢true}
use mathlib.Core.List.{List, [], ◌∷◌, map}
use mathlib.Core.Logic.{◌⊎◌, inl, inr}
use native.Mathlib.Omega.{arith}
use lib.Dec.{eqb, ltb, leb}
use borrow.Author.Tests.{leb-true, ltb-true, le-leb, lt-leb}
use Rattle.laws.specs.Lists.{all, any}
use Rattle.laws.proofs.Order.{Tri, below, equal, above, tri, eqb_sym}
use Rattle.laws.proofs.Truth.{and_left, and_right, and-false, either}
use Rattle.codes.specs.CodesAndCharacters.{Range, ◌to◌, only, in_ranges}

-- from a number to itself
pub only_is : (k n : ℕ) → leb k n && leb n k ≡ eqb n k
only_is k n = go (tri n k)
  where
    go : Tri n k → leb k n && leb n k ≡ eqb n k
    go (below l e f) = rw (f, lt-leb k n l)
    go (equal l e f) = rw (f, le-leb k n (omega arith), le-leb n k (omega arith))
    go (above l e f) = rw (f, lt-leb n k l) (and-false (leb k n))

-- single numbers
pub singles_are : (l : List ℕ) (n : ℕ) → in_ranges (map only l) n ≡ any (λ m. eqb m n) l
unfolding any
singles_are [] n = refl
singles_are (m ∷ l) n = ap₂ (λ (a b : Bool). a || b) (only_is m n ∙ eqb_sym n m) (singles_are l n)

-- one range more in front; the last, of several numbers or of one
pub range : (a b n : ℕ) {r : Bool} (rs : List Range) → r ≡ in_ranges rs n → (leb a n && leb n b) || r ≡ in_ranges ((a to b) ∷ rs) n
unfolding any
range a b n rs e = rw e

pub last_range : (a b n : ℕ) → leb a n && leb n b ≡ in_ranges ((a to b) ∷ []) n
unfolding any
last_range a b n = sym (or-false (leb a n && leb n b))

pub last_single : (k n : ℕ) → eqb n k ≡ in_ranges (only k ∷ []) n
last_single k n = sym (only_is k n) ∙ last_range k k n

-- no number of the ranges is above m
pub ranges_below : (rs : List Range) (m n : ℕ) → all (λ r. leb r.to m) rs ≡ true → in_ranges rs n ≡ true → n ≤ m
unfolding all any
ranges_below [] m n e h = absurd (false≢true h)
ranges_below (r ∷ rs) m n e h =
    go (leb r.from n && leb n r.to) refl (ranges_below rs m n (and_right (leb r.to m) (all (λ r. leb r.to m) rs) e)) h
  where
    go : (b : Bool) → leb r.from n && leb n r.to ≡ b → (in_ranges rs n ≡ true → n ≤ m) → b || in_ranges rs n ≡ true → n ≤ m
    go true u i h =
        let a = leb-true n r.to (and_right (leb r.from n) (leb n r.to) u) in
        let b = leb-true r.to m (and_left (leb r.to m) (all (λ r. leb r.to m) rs) e) in
        omega arith
    go false u i h = i h

-- nor is one beside them among them
pub ranges_beside : (rs : List Range) (lo hi n : ℕ) → all (λ r. ltb r.to lo || ltb hi r.from) rs ≡ true → lo ≤ n → n ≤ hi → in_ranges rs n ≡ false
unfolding all any
ranges_beside [] lo hi n e l h = refl
ranges_beside (r ∷ rs) lo hi n e l h =
    ap₂ (λ (a b : Bool). a || b) (out (either (ltb r.to lo) (ltb hi r.from) (and_left _ (all (λ r. ltb r.to lo || ltb hi r.from) rs) e)))
    (ranges_beside rs lo hi n (and_right (ltb r.to lo || ltb hi r.from) _ e) l h)
  where
    out : (ltb r.to lo ≡ true) ⊎ (ltb hi r.from ≡ true) → leb r.from n && leb n r.to ≡ false
    out (inl t) = let k = ltb-true r.to lo t in rw (lt-leb n r.to (omega arith)) (and-false (leb r.from n))
    out (inr t) = let k = ltb-true hi r.from t in rw (lt-leb r.from n (omega arith))
