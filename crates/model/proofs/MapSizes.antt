-- How many rows a map has after rows were put in, replaced or taken out.
use Prim.Native.Nat.{ℕ, suc, ◌+◌}
use mathlib.Core.Path.{◌≡◌, refl, sym, ap, ◌∙◌}
use mathlib.Core.Bool.{Bool, true, false, not, false≢true}
use mathlib.Core.List.{[], ◌∷◌}
use mathlib.Core.Option.{Option, none, some}
use native.Mathlib.Omega.{arith}
use lib.ListN.{length}
use lib.Dec.{eqb}
use borrow.Author.Tests.{eqb-true}
use Rattle.laws.proofs.Order.{Tri, below, equal, above, tri, eqb_sym}
use Rattle.laws.proofs.Truth.{or_left, or_right, and_left, and_right}
use Rattle.laws.specs.Lists.{all, any}
use Rattle.model.proofs.MapLaws.{find-put_all, find-del_all, find_below, asc_put_all, asc_del_all, no_some, none_of, keep_all}
use Rattle.model.specs.Map.{Row, Map, is_some, or_else, find, has, put, keep, Asc, put_all, del, del_all, any_in, all_in, twice}

module _ {F : Type 0} where
  -- ---- how many rows

  pub size_new : (r : Row F) (m : Map F) → find r.key m ≡ none → length (put r m) ≡ suc (length m)
  unfolding find put
  size_new r [] e = refl
  size_new r (x ∷ m) e = go (tri r.key x.key) (size_new r m)
    where
      go : Tri r.key x.key → (find r.key m ≡ none → length (put r m) ≡ suc (length m)) →
          length (put r (x ∷ m)) ≡ suc (length (x ∷ m))
      go (below l a c) ih = simp a
      go (equal l a c) ih = absurd (no_some {a = x.val} (sym e ∙ simp c))
      go (above l a c) ih = simp (a, c) (ap suc (ih (simp c at e)))

  pub size_old : (b : ℕ) (r : Row F) (m : Map F) → has r.key m ≡ true → Asc b m → length (put r m) ≡ length m
  unfolding find put Asc
  size_old b r [] e h = absurd (false≢true e)
  size_old b r (x ∷ m) e h = go (tri r.key x.key) (λ g. size_old (suc x.key) r m g h.1)
    where
      go : Tri r.key x.key → (has r.key m ≡ true → length (put r m) ≡ length m) → length (put r (x ∷ m)) ≡ length (x ∷ m)
      go (below l a c) ih =
          absurd (false≢true (sym (ap is_some (find_below r.key x.key (x ∷ m) l (omega arith, h.1))) ∙ e))
      go (equal l a c) ih = simp (a, c)
      go (above l a c) ih = simp (a, c) (ap suc (ih (simp c at e)))

  pub size_del : (b k : ℕ) (m : Map F) → has k m ≡ true → Asc b m → suc (length (del k m)) ≡ length m
  unfolding find keep Asc
  size_del b k [] e h = absurd (false≢true e)
  size_del b k (x ∷ m) e h = go (eqb k x.key) refl (λ g. size_del (suc x.key) k m g h.1)
    where
      go : (c : Bool) → eqb k x.key ≡ c → (has k m ≡ true → suc (length (del k m)) ≡ length m) →
          suc (length (del k (x ∷ m))) ≡ length (x ∷ m)
      go true c ih =
          let l : k ≡ x.key = eqb-true k x.key c in
          simp (eqb_sym x.key k, c, keep_all k m (find_below k (suc x.key) m (omega arith) h.1))
      go false c ih = simp (eqb_sym x.key k, c, ih (simp c at e))

  either_some : (a b : Option F) → is_some b ≡ true → is_some (or_else a b) ≡ true
  either_some none b e = e
  either_some (some a) b e = refl

  pub size_insert : (rs m : Map F) → twice rs ≡ false → any_in rs m ≡ false → length (put_all rs m) ≡ length rs + length m
  unfolding put_all twice any_in any
  size_insert [] m t a = omega arith
  size_insert (r ∷ rs) m t a =
      let ih : length (put_all rs m) ≡ length rs + length m = size_insert rs m (or_right (has r.key rs) _ t) (or_right (has r.key m) _ a) in
      let f : find r.key (put_all rs m) ≡ none
      = simp (find-put_all, none_of (find r.key rs) (or_left (has r.key rs) (twice rs) t), none_of (find r.key m) (or_left (has r.key m) (any_in rs m) a)) in
      let s : length (put r (put_all rs m)) ≡ suc (length (put_all rs m)) = size_new r (put_all rs m) f in
      omega arith

  pub size_vary : (rs m : Map F) → all_in rs m ≡ true → Asc 0 m → length (put_all rs m) ≡ length m
  unfolding put_all all_in all
  size_vary [] m a h = refl
  size_vary (r ∷ rs) m a h =
      size_old 0 r (put_all rs m)
      (simp find-put_all (either_some (find r.key rs) (find r.key m) (and_left (has r.key m) (all_in rs m) a)))
      (asc_put_all rs m h) ∙
      size_vary rs m (and_right (has r.key m) _ a) h

  pub size_cancel : (rs m : Map F) → twice rs ≡ false → all_in rs m ≡ true → Asc 0 m → length rs + length (del_all rs m) ≡ length m
  unfolding del_all twice all_in all
  size_cancel [] m t a h = omega arith
  size_cancel (r ∷ rs) m t a h =
      let ih : length rs + length (del_all rs m) ≡ length m = size_cancel rs m (or_right (has r.key rs) _ t) (and_right (has r.key m) _ a) h in
      let f : has r.key (del_all rs m) ≡ true = simp (find-del_all, or_left (has r.key rs) (twice rs) t) (and_left (has r.key m) (all_in rs m) a) in
      let s : suc (length (del r.key (del_all rs m))) ≡ length (del_all rs m)
      = size_del 0 r.key (del_all rs m) f (asc_del_all rs m h) in
      omega arith

  -- what passes and what does not make up the whole
  pub size_keep : (p : ℕ → Bool) (m : Map F) → length (keep (λ k. not (p k)) m) + length (keep p m) ≡ length m
  unfolding keep
  size_keep p [] = refl
  size_keep p (x ∷ m) = go (p x.key) refl (size_keep p m)
    where
      go : (b : Bool) → p x.key ≡ b → length (keep (λ k. not (p k)) m) + length (keep p m) ≡ length m →
          length (keep (λ k. not (p k)) (x ∷ m)) + length (keep p (x ∷ m)) ≡ length (x ∷ m)
      go true e ih = simp e (omega arith)
      go false e ih = simp e (omega arith)
