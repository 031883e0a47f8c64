-- A row with a key that stands, taken out at the place that a search found.
use Prim.Native.Nat.{ℕ, ◌+◌, ◌-◌}
use mathlib.Core.Path.{◌≡◌, refl, ◌∙◌}
use mathlib.Core.Bool.{true, ◌&&◌}
use mathlib.Core.List.{List}
use lib.Dec.{ltb, eqb}
use lib.ListN.{length}
use borrow.Author.Tests.{eqb-true}
use Rattle.laws.proofs.Truth.{and_right}
use Rattle.model.specs.Map.{has, del}
use Rattle.model.specs.Flow.{State}
use Rattle.register.specs.Layout.{Layout}
use Rattle.register.specs.Stored.{Laid, Stored, Group, rows_of, with_rows}
use Rattle.register.specs.Search.{Placed}
use Rattle.register.specs.Moves.{removed, with_count}
use Rattle.register.proofs.Changes.{count_at, start_of}
use Rattle.register.proofs.Places.{keys, within}
use Rattle.register.proofs.Storing.{drop_gone}
use Rattle.register.proofs.Found.{stands_has}

module _ (l : Layout) (lay : Laid l) (g : Group) (a : List ℕ) (s : State ℕ ℕ) (h : Stored l a s) (v i : ℕ)
    (pl : Placed (keys l lay g a s h) v (start_of g s) (start_of g s + length (rows_of g s)) i) (st : has v (rows_of g s) ≡ true) where
  abbrev end : ℕ
  end = start_of g s + length (rows_of g s)

  abbrev key : ℕ
  key = keys l lay g a s h i

  -- the row found is of the group and has the key
  pub found_row : ltb i end && eqb key v ≡ true
  found_row = stands_has l lay g a s h v end i refl pl ∙ st

  pub found_key : key ≡ v
  found_key = eqb-true key v (and_right (ltb i end) (eqb key v) found_row)

  pub drop_found : (b : List ℕ) → length b ≡ length a →
      b ≡ with_count (count_at g) (end - start_of g s - 1) (removed l.bytes i (length s.cases + length s.events) a) →
      Stored l b (with_rows g (del v (rows_of g s)) s)
  drop_found b len e = drop_gone l lay g a s h v b i pl.low (within l lay g a s h v end i refl pl found_row) len e
