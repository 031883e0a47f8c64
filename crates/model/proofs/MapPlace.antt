-- The ordered map cut at a place: what a call that works at a row's index needs. With `split_at` of `lib.Seq` a place is an index.
--
use Prim.Native.Nat.{ℕ, zero, suc, ◌≤◌, ◌<◌}
use mathlib.Core.Path.{◌≡◌, refl}
use mathlib.Core.List.{[], ◌∷◌, ◌++◌}
use mathlib.Core.Option.{none, some}
use native.Mathlib.Omega.{arith}
use lib.ListN.{length, get_or}
use borrow.Author.Tests.{lt-ltb, le-ltb, eq-eqb, ne_eqb}
use Rattle.laws.proofs.Order.{Tri, below, equal, above, tri}
use Rattle.model.proofs.MapLaws.{find_below, keep_all}
use Rattle.model.specs.Map.{Row, Map, find, put, keep, Asc, Once, del}

module _ {F : Type 0} where
  -- every key is below k
  abbrev pub AllBelow : ℕ → Map F → Type 0
  AllBelow k [] = Unit {0}
  AllBelow k (x ∷ m) = (x.key < k) × AllBelow k m

  pub all_below : (k : ℕ) (d : Row F) (a : Map F) → ((j : ℕ) → j < length a → (get_or a j d).key < k) → AllBelow k a
  all_below k d [] h = tt
  all_below k d (x ∷ a) h = (h 0 (omega arith), all_below k d a (λ j l. h (suc j) (omega arith)))

  -- an ascending map, cut at a row
  pub cut_asc : (b : ℕ) (a : Map F) (x : Row F) (c : Map F) → Asc b (a ++ x ∷ c) → (b ≤ x.key) × AllBelow x.key a × Asc (suc x.key) c
  unfolding Asc
  cut_asc b [] x c h = (h.0, tt, h.1)
  cut_asc b (y ∷ a) x c h =
      let i = cut_asc (suc y.key) a x c h.1 in
      (omega arith, (omega arith, i.1), i.2)

  pub put_in : (r : Row F) (a b : Map F) → AllBelow r.key a → Asc (suc r.key) b → put r (a ++ b) ≡ a ++ r ∷ b
  unfolding put Asc
  put_in r [] [] h g = refl
  put_in r [] (x ∷ b) h g = simp (lt-ltb r.key x.key g.0)
  put_in r (y ∷ a) b h g =
      simp (le-ltb r.key y.key (omega arith), ne_eqb r.key y.key (λ e. omega arith), put_in r a b h.1 g)

  pub put_over : (r : Row F) (a : Map F) (x : Row F) (b : Map F) → AllBelow r.key a → r.key ≡ x.key → put r (a ++ x ∷ b) ≡ a ++ r ∷ b
  unfolding put
  put_over r [] x b h e = simp (le-ltb r.key x.key (omega arith), eq-eqb r.key x.key e)
  put_over r (y ∷ a) x b h e =
      simp (le-ltb r.key y.key (omega arith), ne_eqb r.key y.key (λ e. omega arith), put_over r a x b h.1 e)

  pub find_in : (a : Map F) (x : Row F) (b : Map F) → AllBelow x.key a → find x.key (a ++ x ∷ b) ≡ some x.val
  unfolding find
  find_in [] x b h = simp (eq-eqb x.key x.key refl)
  find_in (y ∷ a) x b h = simp (ne_eqb x.key y.key (λ e. omega arith)) (find_in a x b h.1)

  pub find_out : (k : ℕ) (a b : Map F) → AllBelow k a → Asc (suc k) b → find k (a ++ b) ≡ none
  unfolding find
  find_out k [] b h g = find_below k (suc k) b (omega arith) g
  find_out k (y ∷ a) b h g = simp (ne_eqb k y.key (λ e. omega arith)) (find_out k a b h.1 g)

  pub del_out : (a : Map F) (x : Row F) (b : Map F) → AllBelow x.key a → Asc (suc x.key) b → del x.key (a ++ x ∷ b) ≡ a ++ b
  unfolding keep
  del_out [] x b h g = simp (eq-eqb x.key x.key refl) (keep_all x.key b (find_below x.key (suc x.key) b (omega arith) g))
  del_out (y ∷ a) x b h g = simp (ne_eqb y.key x.key (λ e. omega arith), del_out a x b h.1 g)

  asc_get_or : (b : ℕ) (d : Row F) (m : Map F) (i : ℕ) → Asc b m → i < length m → b ≤ (get_or m i d).key
  unfolding Asc
  asc_get_or b d [] i h l = absurd (omega arith)
  asc_get_or b d (x ∷ m) zero h l = h.0
  asc_get_or b d (x ∷ m) (suc i) h l = let g = asc_get_or (suc x.key) d m i h.1 (omega arith) in omega arith

  -- every row of an ascending map is the one that its key finds: nothing stands that no lookup shows
  pub find_at : (b : ℕ) (d : Row F) (m : Map F) (i : ℕ) → Asc b m → i < length m → find (get_or m i d).key m ≡ some (get_or m i d).val
  unfolding Asc find
  find_at b d [] i h l = absurd (omega arith)
  find_at b d (x ∷ m) zero h l = simp (eq-eqb x.key x.key refl)
  find_at b d (x ∷ m) (suc i) h l =
      let g = asc_get_or (suc x.key) d m i h.1 (omega arith) in
      simp (ne_eqb (get_or m i d).key x.key (λ e. omega arith)) (find_at (suc x.key) d m i h.1 (omega arith))

  -- later rows have larger keys
  asc_less : (b : ℕ) (d : Row F) (m : Map F) (i j : ℕ) → Asc b m → i < j → j < length m → (get_or m i d).key < (get_or m j d).key
  unfolding Asc
  asc_less b d [] i j h l g = absurd (omega arith)
  asc_less b d (x ∷ m) i zero h l g = absurd (omega arith)
  asc_less b d (x ∷ m) zero (suc j) h l g = asc_get_or (suc x.key) d m j h.1 (omega arith)
  asc_less b d (x ∷ m) (suc i) (suc j) h l g = asc_less (suc x.key) d m i j h.1 (omega arith) (omega arith)

  pub asc_once : (b : ℕ) (m : Map F) → Asc b m → Once m
  asc_once b m h d i j l g e = go (tri i j)
    where
      go : Tri i j → i ≡ j
      go (below p a c) = let q = asc_less b d m i j h p g in absurd (omega arith)
      go (equal p a c) = p
      go (above p a c) = let q = asc_less b d m j i h p l in absurd (omega arith)
