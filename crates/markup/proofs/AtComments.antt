-- Comments and the declaration: to the first two bytes that close them, at a place of the input.
use Prim.Native.Nat.{ℕ, ◌+◌, ◌<◌, ◌≤◌}
use mathlib.Core.Path.{◌≡◌, refl, ap}
use mathlib.Core.List.{List, [], ◌∷◌}
use mathlib.Core.Bool.{Bool, true, false, cond, ◌&&◌}
use native.Mathlib.Omega.{arith}
use native.Mathlib.Nat.{add_assoc}
use lib.ListN.{length, drop, get_or, drop_of_length-le}
use lib.Seq.{drop-drop}
use lib.Dec.{eqb}
use borrow.Author.Tests.{eqb-true, ne_eqb}
use Rattle.laws.proofs.Places.{front, first, byte_inside}
use Rattle.laws.proofs.Truth.{and_right}
use Rattle.markup.specs.NamesAndValues.{then, byte}
use Rattle.markup.specs.NamesAndValues.Read.{refused, read}
use Rattle.markup.specs.Comments.{opens_other, closed_by, comment, declared}

-- at the byte b before the byte c
module _ (a e : ℕ) (s : List ℕ) (at c : ℕ) (h : at < length s) (k : c ≡ get_or s (at + 1) 0) where
  pub closed-at : closed_by a e (drop at s)
      ≡ cond (eqb (get_or s at 0) a && eqb c e) (read tt (drop (at + 2) s)) (cond (opens_other (get_or s at 0) c) refused (closed_by a e (drop (at + 1) s)))
  unfolding closed_by
  closed-at = rw (front s at h, first s (at + 1), ← k, drop-drop 1 (at + 1) s, add_assoc at 1 1)

  pub closed_inside : 0 < e → (eqb (get_or s at 0) a && eqb c e) ≡ true → at + 2 ≤ length s
  closed_inside p t =
      omega (arith, byte_inside s (at + 1) c e (ne_eqb 0 e (λ z. omega arith)) k (eqb-true c e (and_right (eqb (get_or s at 0) a) (eqb c e) t)))

pub closed_end : (a e : ℕ) (s : List ℕ) (at : ℕ) → length s ≤ at → closed_by a e (drop at s) ≡ refused
unfolding closed_by
closed_end a e s at h = rw (drop_of_length-le s h)

-- a comment is closed by two dashes and `>`, the declaration by `?>`
pub comment_closed : (l : List ℕ) → comment l ≡ then (closed_by 45 45 l) (λ _ m. byte 62 m)
unfolding closed_by comment
comment_closed [] = refl
comment_closed (b ∷ l) = go (eqb b 45 && eqb (get_or l 0 0) 45) (opens_other b (get_or l 0 0)) (comment_closed l)
  where
    go : (t u : Bool) → comment l ≡ then (closed_by 45 45 l) (λ _ m. byte 62 m) → cond t (byte 62 (drop 1 l)) (cond u refused (comment l)) ≡ then (cond t (read tt (drop 1 l)) (cond u refused (closed_by 45 45 l))) (λ _ m. byte 62 m)
    go true u h = refl
    go false true h = refl
    go false false h = h

pub declared_closed : (l : List ℕ) → closed_by 63 62 l ≡ declared l
unfolding closed_by declared
declared_closed [] = refl
declared_closed (b ∷ l) = ap (λ r. cond (eqb b 63 && eqb (get_or l 0 0) 62) (read tt (drop 1 l)) (cond (opens_other b (get_or l 0 0)) refused r)) (declared_closed l)
