-- Rows taken out of a map: those with the keys of other rows, and those that pass a test.
use Prim.Native.Nat.{ℕ, suc}
use mathlib.Core.Path.{◌≡◌, refl, sym, ap, ◌∙◌}
use mathlib.Core.Bool.{Bool, true, false, cond, not, ◌&&◌, ◌||◌, true≢false, and-true, and-false}
use mathlib.Core.List.{[], ◌∷◌, ◌++◌}
use mathlib.Core.Option.{some}
use native.Mathlib.Omega.{arith}
use lib.Dec.{eqb}
use borrow.Author.Tests.{eqb-true, ne_eqb}
use Rattle.laws.proofs.Truth.{or_left, or_right}
use Rattle.laws.proofs.Every.{or_tell, not_tell}
use Rattle.model.specs.Map.{Row, Map, is_some, find, has, keep, Asc, del_all, all_in, twice}
use Rattle.model.proofs.MapLaws.{find_below, asc_weaken, keep-true, keep_same, keep-keep, keep-has}
use Rattle.checks.proofs.RowTests.{has_more, has_first, all-key, key-all}
use Rattle.cancellation.specs.Chosen.{those}

module _ {F : Type 0} where
  -- tests that agree on the keys that stand
  keep_agree : (p q : ℕ → Bool) (m : Map F) → ((k : ℕ) → has k m ≡ true → p k ≡ q k) → keep p m ≡ keep q m
  unfolding keep
  keep_agree p q [] h = refl
  keep_agree p q (x ∷ m) h = rw (h x.key (has_first x m), keep_agree p q m (λ k g. h k (has_more x m k g)))

  -- a key of two maps, one after the other
  pub has_append : (k : ℕ) (a b : Map F) → has k (a ++ b) ≡ (has k a || has k b)
  unfolding find
  has_append k [] b = refl
  has_append k (x ∷ a) b = go (eqb k x.key) (has_append k a b)
    where
      go : (t : Bool) → has k (a ++ b) ≡ (has k a || has k b) →
          is_some (cond t (some x.val) (find k (a ++ b))) ≡ (is_some (cond t (some x.val) (find k a)) || has k b)
      go true h = refl
      go false h = h

  -- a map less_chosen the rows that have keys of rs
  abbrev pub less_rows : Map F → Map F → Map F
  less_rows rs m = keep (λ k. not (has k rs)) m

  -- as they are taken out one by one
  pub less_all : (rs m : Map F) → del_all rs m ≡ less_rows rs m
  unfolding del_all find
  less_all [] m = sym (keep-true (λ k. true) m (λ k. refl))
  less_all (r ∷ rs) m =
      ap (keep (λ j. not (eqb j r.key))) (less_all rs m)
      ∙ keep-keep (λ j. not (eqb j r.key)) (λ k. not (has k rs)) m
      ∙ keep_same _ (λ k. not (is_some (cond (eqb k r.key) (some r.val) (find k rs)))) m (λ k. go k (eqb k r.key))
    where
      go : (k : ℕ) (b : Bool) → not (has k rs) && not b ≡ not (is_some (cond b (some r.val) (find k rs)))
      go k true = and-false (not (has k rs))
      go k false = and-true (not (has k rs))

  -- some rows, and then others
  pub less_append : (a b m : Map F) → less_rows b (less_rows a m) ≡ less_rows (a ++ b) m
  less_append a b m =
      keep-keep (λ k. not (has k b)) (λ k. not (has k a)) m
      ∙ keep_same _ _ m (λ k. neither (has k a) (has k b) ∙ ap not (sym (has_append k a b)))
    where
      neither : (x y : Bool) → not x && not y ≡ not (x || y)
      neither true y = refl
      neither false y = refl

  -- where no key is there twice, none is there twice in the rest and in the front
  pub twice_rest : (a b : Map F) → twice (a ++ b) ≡ false → twice b ≡ false
  unfolding twice
  twice_rest [] b h = h
  twice_rest (x ∷ a) b h = twice_rest a b (or_right (has x.key (a ++ b)) (twice (a ++ b)) h)

  pub twice_front : (a b : Map F) → twice (a ++ b) ≡ false → twice a ≡ false
  unfolding twice
  twice_front [] b h = refl
  twice_front (x ∷ a) b h =
      or_tell (has x.key a) (twice a)
      (or_left (has x.key a) (has x.key b) (sym (has_append x.key a b) ∙ or_left (has x.key (a ++ b)) (twice (a ++ b)) h))
      (twice_front a b (or_right (has x.key (a ++ b)) (twice (a ++ b)) h))

  -- and none of the rest is among the front
  apart : (a b : Map F) → twice (a ++ b) ≡ false → (k : ℕ) → has k b ≡ true → has k a ≡ false
  unfolding twice find
  apart [] b h k g = refl
  apart (x ∷ a) b h k g = go (eqb k x.key) refl (apart a b (or_right (has x.key (a ++ b)) (twice (a ++ b)) h) k g)
    where
      first_apart : has x.key b ≡ false
      first_apart = or_right (has x.key a) (has x.key b) (sym (has_append x.key a b) ∙ or_left (has x.key (a ++ b)) (twice (a ++ b)) h)

      go : (t : Bool) → eqb k x.key ≡ t → has k a ≡ false → is_some (cond t (some x.val) (find k a)) ≡ false
      go true e ih = absurd (true≢false (sym g ∙ ap (λ (j : ℕ). has j b) (eqb-true k x.key e) ∙ first_apart))
      go false e ih = ih

  -- rows that stand still stand after others were taken out
  pub stand_less : (a b m : Map F) → twice (a ++ b) ≡ false → all_in b m ≡ true → all_in b (less_rows a m) ≡ true
  unfolding all_in
  stand_less a b m t h =
      key-all (λ k. has k (less_rows a m)) b
      (λ k g. keep-has k (λ k. not (has k a)) m (all-key (λ k. has k m) b h k g) (not_tell (has k a) (apart a b t k g)))

  -- ---- those that pass a test of rows

  -- their keys ascend
  pub asc_those : (p : Row F → Bool) (b : ℕ) (m : Map F) → Asc b m → Asc b (those p m)
  unfolding those Asc
  asc_those p b [] h = tt
  asc_those p b (x ∷ m) h = go (p x) (asc_those p (suc x.key) m h.1)
    where
      go : (t : Bool) → Asc (suc x.key) (those p m) → Asc b (cond t (x ∷ those p m) (those p m))
      go true g = (h.0, g)
      go false g = asc_weaken b (suc x.key) (those p m) (omega arith) g

  -- a key of theirs stands
  pub has-those : (p : Row F → Bool) (m : Map F) (k : ℕ) → has k (those p m) ≡ true → has k m ≡ true
  unfolding those find
  has-those p [] k h = h
  has-those p (x ∷ m) k h = go (p x) (eqb k x.key) refl (has-those p m k) h
    where
      go : (t u : Bool) → eqb k x.key ≡ u → (has k (those p m) ≡ true → has k m ≡ true) → has k (cond t (x ∷ those p m) (those p m)) ≡ true →
          is_some (cond u (some x.val) (find k m)) ≡ true
      go t true e ih g = refl
      go true false e ih g = ih (simp e at g)
      go false false e ih g = ih g

  -- first a test of the keys, then one of the rows
  pub those-keep : (p : Row F → Bool) (q : ℕ → Bool) (m : Map F) → those p (keep q m) ≡ those (λ r. q r.key && p r) m
  unfolding those keep
  those-keep p q [] = refl
  those-keep p q (x ∷ m) = go (q x.key) (p x) refl (those-keep p q m)
    where
      go : (t u : Bool) → p x ≡ u → those p (keep q m) ≡ those (λ r. q r.key && p r) m →
          those p (cond t (x ∷ keep q m) (keep q m)) ≡ cond (t && u) (x ∷ those (λ r. q r.key && p r) m) (those (λ r. q r.key && p r) m)
      go true true e ih = rw e (ap (λ (n : Map F). x ∷ n) ih)
      go true false e ih = rw e ih
      go false u e ih = ih

  -- taken out by their keys, the rows that fail the test are left
  pub less_those : (p : Row F → Bool) (b : ℕ) (m : Map F) → Asc b m → less_rows (those p m) m ≡ those (λ r. not (p r)) m
  unfolding those keep find Asc
  less_those p b [] h = refl
  less_those p b (x ∷ m) h = go (p x) (less_those p (suc x.key) m h.1)
    where
      above : (k : ℕ) → has k m ≡ true → eqb k x.key ≡ false
      above k g =
          ne_eqb k x.key (λ e. true≢false (sym g ∙ ap is_some (find_below k (suc x.key) m (omega arith) h.1)))

      absent : has x.key (those p m) ≡ false
      absent = ap is_some (find_below x.key (suc x.key) (those p m) (omega arith) (asc_those p (suc x.key) m h.1))

      go : (t : Bool) → less_rows (those p m) m ≡ those (λ r. not (p r)) m →
          less_rows (cond t (x ∷ those p m) (those p m)) (x ∷ m) ≡ cond (not t) (x ∷ those (λ r. not (p r)) m) (those (λ r. not (p r)) m)
      go true ih =
          rw (has_first x (those p m))
          (keep_agree (λ k. not (has k (x ∷ those p m))) (λ k. not (has k (those p m))) m (λ k g. rw (above k g)) ∙ ih)
      go false ih = rw absent (ap (λ (n : Map F). x ∷ n) ih)
