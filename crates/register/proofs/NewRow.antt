-- A row with a new key, put in at the place that a search found.
use Prim.Native.Nat.{ℕ, ◌+◌, ◌-◌, ◌<◌}
use mathlib.Core.Path.{◌≡◌, refl, ◌∙◌}
use mathlib.Core.Bool.{false}
use mathlib.Core.List.{List}
use native.Mathlib.Omega.{arith}
use lib.ListN.{length}
use Rattle.model.specs.Map.{has, put}
use Rattle.model.specs.Flow.{State}
use Rattle.rows.specs.Packing.{num, each, Fit}
use Rattle.register.specs.Layout.{Layout}
use Rattle.register.specs.RoomAndEmptying.{room}
use Rattle.register.specs.Stored.{Laid, Stored, Group, rows_of, split_of, with_rows}
use Rattle.register.specs.Search.{Placed}
use Rattle.register.specs.Moves.{inserted, with_count}
use Rattle.register.proofs.States.{room_holds}
use Rattle.register.proofs.Changes.{count_at, start_of}
use Rattle.register.proofs.Places.{keys, apart}
use Rattle.register.proofs.Storing.{put_new}
use Rattle.register.proofs.Found.{stands_has}

module _ (l : Layout) (lay : Laid l) (g : Group) (a : List ℕ) (s : State ℕ ℕ) (h : Stored l a s) (row : List ℕ) (er : length row ≡ l.bytes)
    (f : Fit (each 8 row)) where
  abbrev v : ℕ
  v = (split_of g l (num row)).key

  abbrev end : ℕ
  end = start_of g s + length (rows_of g s)

  pub put_found : (b : List ℕ) (i : ℕ) → Placed (keys l lay g a s h) v (start_of g s) end i → has v (rows_of g s) ≡ false →
      length s.cases + length s.events < room l (length a) → length b ≡ length a →
      b ≡ with_count (count_at g) (end - start_of g s + 1) (inserted l.bytes i (length s.cases + length s.events) row a) →
      Stored l b (with_rows g (put (split_of g l (num row)) (rows_of g s)) s)
  put_found b i pl st few len e =
      let z = room_holds l (length a) (length s.cases + length s.events + 1) h.long (omega arith) in
      put_new l lay g a s h row er f b i pl.low (apart l lay g a s h v end i refl pl (stands_has l lay g a s h v end i refl pl ∙ st)) z.1 few len e
