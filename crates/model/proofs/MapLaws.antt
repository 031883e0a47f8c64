-- The laws of the ordered map.
use Prim.Native.Nat.{ℕ, suc, ◌≤◌, ◌<◌}
use mathlib.Core.Path.{◌≡◌, refl, sym, ap, ◌∙◌}
use mathlib.Core.Logic.{◌⊎◌, inl, inr}
use mathlib.Core.Bool.{Bool, true, false, cond, not, ◌&&◌, ◌||◌, true≢false, false≢true}
use mathlib.Core.List.{[], ◌∷◌}
use mathlib.Core.Option.{Option, none, some}
use native.Mathlib.Omega.{arith}
use lib.Dec.{eqb}
use borrow.Author.Tests.{eqb-true, eq-eqb, ne_eqb}
use Rattle.laws.proofs.Order.{Tri, below, equal, above, tri, eqb_sym}
use Rattle.laws.proofs.Truth.{cond_both, cond_again, cond_swap, or_left, or_right}
use Rattle.laws.specs.Lists.{any}
use Rattle.model.specs.Map.{Row, Map, is_some, or_else, find, has, put, keep, Asc, put_all, del, del_all, any_in}

module _ {F : Type 0} where
  pub find-put : (k : ℕ) (r : Row F) (m : Map F) → find k (put r m) ≡ cond (eqb k r.key) (some r.val) (find k m)
  unfolding find put
  find-put k r [] = refl
  find-put k r (x ∷ m) = go (tri r.key x.key) (find-put k r m)
    where
      go : Tri r.key x.key → find k (put r m) ≡ cond (eqb k r.key) (some r.val) (find k m) →
          find k (put r (x ∷ m)) ≡ cond (eqb k r.key) (some r.val) (find k (x ∷ m))
      go (below l a b) ih = simp (a, b)
      go (equal l a b) ih = simp (a, b) (cond_again _ _ _ _ _ (ap (λ (j : ℕ). eqb k j) l))
      go (above l a b) ih =
          simp (a, b, ih)
          (cond_swap _ _ _ _ _ (λ s t.
          let e : k ≡ x.key = eqb-true _ _ s in
          let f : k ≡ r.key = eqb-true _ _ t in
          omega arith))

  pub find-keep : (k : ℕ) (p : ℕ → Bool) (m : Map F) → find k (keep p m) ≡ cond (p k) (find k m) none
  unfolding find keep
  find-keep k p [] = cond_both (p k) none
  find-keep k p (x ∷ m) = go (eqb k x.key) refl (p x.key) refl (find-keep k p m)
    where
      go : (b : Bool) → eqb k x.key ≡ b → (c : Bool) → p x.key ≡ c → find k (keep p m) ≡ cond (p k) (find k m) none →
          find k (keep p (x ∷ m)) ≡ cond (p k) (find k (x ∷ m)) none
      go true e true f ih = simp (f, e, ap p (eqb-true k x.key e))
      go true e false f ih = simp (f, e, ap p (eqb-true k x.key e), ih)
      go false e true f ih = simp (f, e, ih)
      go false e false f ih = simp (f, e, ih)

  pub asc_weaken : (a b : ℕ) (m : Map F) → a ≤ b → Asc b m → Asc a m
  unfolding Asc
  asc_weaken a b [] l h = tt
  asc_weaken a b (x ∷ m) l h = (omega arith, h.1)

  pub asc_put : (b : ℕ) (r : Row F) (m : Map F) → b ≤ r.key → Asc b m → Asc b (put r m)
  unfolding put Asc
  asc_put b r [] l h = (l, tt)
  asc_put b r (x ∷ m) l h = go (tri r.key x.key) (λ g. asc_put (suc x.key) r m g h.1)
    where
      go : Tri r.key x.key → (x.key < r.key → Asc (suc x.key) (put r m)) → Asc b (put r (x ∷ m))
      go (below g a e) ih = simp a (l, (g, h.1))
      go (equal g a e) ih = simp (a, e) (l, rw g h.1)
      go (above g a e) ih = simp (a, e) (h.0, ih g)

  pub asc_keep : (b : ℕ) (p : ℕ → Bool) (m : Map F) → Asc b m → Asc b (keep p m)
  unfolding keep Asc
  asc_keep b p [] h = tt
  asc_keep b p (x ∷ m) h = go (p x.key) refl (asc_keep (suc x.key) p m h.1)
    where
      go : (c : Bool) → p x.key ≡ c → Asc (suc x.key) (keep p m) → Asc b (keep p (x ∷ m))
      go true e ih = simp e (h.0, ih)
      go false e ih = simp e (asc_weaken b (suc x.key) (keep p m) (omega arith) ih)

  pub find_below : (k b : ℕ) (m : Map F) → k < b → Asc b m → find k m ≡ none
  unfolding find Asc
  find_below k b [] l h = refl
  find_below k b (x ∷ m) l h =
      simp (ne_eqb k x.key (λ e. omega arith)) (find_below k (suc x.key) m (omega arith) h.1)

  pub no_some : {a : F} → none ≡ some a → ⊥
  no_some e = let z : ◌≡◌ {A = ℕ} 0 1 = cc in omega arith

  find_self : (x : Row F) (m : Map F) → find x.key (x ∷ m) ≡ some x.val
  unfolding find
  find_self x m = simp (eq-eqb x.key x.key refl)

  find_past : (k : ℕ) (x : Row F) (m : Map F) → x.key < k → find k (x ∷ m) ≡ find k m
  unfolding find
  find_past k x m l = simp (ne_eqb k x.key (λ e. omega arith))

  pub find_nil : (k : ℕ) → ◌≡◌ {A = Option F} none (find k [])
  unfolding find
  find_nil k = refl

  some_inj : (a b : F) → some a ≡ some b → a ≡ b
  some_inj a b e = cc

  -- same lookups, same rows
  pub ext : (b : ℕ) (m n : Map F) → Asc b m → Asc b n → ((k : ℕ) → find k m ≡ find k n) → m ≡ n
  unfolding Asc
  ext b [] [] h g f = refl
  ext b [] (y ∷ n) h g f = absurd (no_some (find_nil y.key ∙ f y.key ∙ find_self y n))
  ext b (x ∷ m) [] h g f = absurd (no_some (find_nil x.key ∙ sym (f x.key) ∙ find_self x m))
  ext b (x ∷ m) (y ∷ n) h g f = go (tri x.key y.key) (λ e. ext (suc x.key) m n h.1 e)
    where
      rest : x.key ≡ y.key → (k : ℕ) → find k m ≡ find k n
      rest e k = near (tri k x.key)
        where
          near : Tri k x.key → find k m ≡ find k n
          near (below l a c) =
              find_below k (suc x.key) m (omega arith) h.1 ∙ sym (find_below k (suc y.key) n (omega arith) g.1)
          near (equal l a c) =
              find_below k (suc x.key) m (omega arith) h.1 ∙ sym (find_below k (suc y.key) n (omega arith) g.1)
          near (above l a c) = sym (find_past k x m l) ∙ f k ∙ find_past k y n (omega arith)

      go : Tri x.key y.key → (Asc (suc x.key) n → ((k : ℕ) → find k m ≡ find k n) → m ≡ n) → x ∷ m ≡ y ∷ n
      go (below l a c) ih =
          absurd (no_some (sym (find_below x.key y.key (y ∷ n) l (omega arith, g.1)) ∙ sym (f x.key) ∙ find_self x m))
      go (above l a c) ih =
          absurd (no_some (sym (find_below y.key x.key (x ∷ m) l (omega arith, h.1)) ∙ f y.key ∙ find_self y n))
      go (equal l a c) ih =
          let v : x.val ≡ y.val = some_inj _ _ (sym (find_self x m) ∙ f x.key ∙ rw l (find_self y n)) in
          let t : m ≡ n = ih (rw l g.1) (rest l) in
          let r : x ≡ y = λ i. record { key = l i; val = v i } in
          cc

  -- what does not stand is not taken out
  pub keep_all : (k : ℕ) (m : Map F) → find k m ≡ none → del k m ≡ m
  unfolding find keep
  keep_all k [] e = refl
  keep_all k (x ∷ m) e = go (eqb k x.key) refl (keep_all k m)
    where
      go : (b : Bool) → eqb k x.key ≡ b → (find k m ≡ none → del k m ≡ m) → del k (x ∷ m) ≡ x ∷ m
      go true c ih = absurd (no_some {a = x.val} (sym e ∙ simp c))
      go false c ih = simp (eqb_sym x.key k, c, ih (simp c at e))

  -- ---- many rows at once

  pub find-put_all : (k : ℕ) (rs m : Map F) → find k (put_all rs m) ≡ or_else (find k rs) (find k m)
  unfolding put_all find
  find-put_all k [] m = refl
  find-put_all k (r ∷ rs) m = find-put k r (put_all rs m) ∙ go (eqb k r.key) (find-put_all k rs m)
    where
      go : (b : Bool) → find k (put_all rs m) ≡ or_else (find k rs) (find k m) →
          cond b (some r.val) (find k (put_all rs m)) ≡ or_else (cond b (some r.val) (find k rs)) (find k m)
      go true ih = refl
      go false ih = ih

  pub find-del_all : (k : ℕ) (rs m : Map F) → find k (del_all rs m) ≡ cond (has k rs) none (find k m)
  unfolding del_all find
  find-del_all k [] m = refl
  find-del_all k (r ∷ rs) m = find-keep k (λ j. not (eqb j r.key)) (del_all rs m) ∙ go (eqb k r.key) (find-del_all k rs m)
    where
      go : (b : Bool) → find k (del_all rs m) ≡ cond (has k rs) none (find k m) →
          cond (not b) (find k (del_all rs m)) none ≡ cond (is_some (cond b (some r.val) (find k rs))) none (find k m)
      go true ih = refl
      go false ih = ih

  pub asc_put_all : (rs m : Map F) → Asc 0 m → Asc 0 (put_all rs m)
  unfolding put_all
  asc_put_all [] m h = h
  asc_put_all (r ∷ rs) m h = asc_put 0 r (put_all rs m) (omega arith) (asc_put_all rs m h)

  pub asc_del_all : (rs m : Map F) → Asc 0 m → Asc 0 (del_all rs m)
  unfolding del_all
  asc_del_all [] m h = h
  asc_del_all (r ∷ rs) m h = asc_keep 0 (λ j. not (eqb j r.key)) (del_all rs m) (asc_del_all rs m h)

  pub none_of : (o : Option F) → is_some o ≡ false → o ≡ none
  none_of none e = refl
  none_of (some a) e = absurd (true≢false e)

  -- where no key of rs stands in m, no single one does
  pub not_in : (k : ℕ) (rs m : Map F) → any_in rs m ≡ false → has k rs ≡ true → find k m ≡ none
  unfolding find any_in any
  not_in k [] m a h = absurd (false≢true h)
  not_in k (r ∷ rs) m a h = go (eqb k r.key) refl (not_in k rs m (or_right (has r.key m) _ a))
    where
      go : (b : Bool) → eqb k r.key ≡ b → (has k rs ≡ true → find k m ≡ none) → find k m ≡ none
      go true e ih = rw (eqb-true k r.key e) (none_of (find r.key m) (or_left (has r.key m) (any_in rs m) a))
      go false e ih = ih (simp e at h)

  -- ---- the same laws for standing alone

  pub has-put : (k : ℕ) (r : Row F) (m : Map F) → has k m ≡ true → has k (put r m) ≡ true
  has-put k r m h = rw (find-put k r m) (go (eqb k r.key))
    where
      go : (b : Bool) → is_some (cond b (some r.val) (find k m)) ≡ true
      go true = refl
      go false = h

  pub has-keep : (k : ℕ) (p : ℕ → Bool) (m : Map F) → has k (keep p m) ≡ true → (has k m ≡ true) × (p k ≡ true)
  has-keep k p m h = go (p k) refl (rw (find-keep k p m) at h)
    where
      go : (b : Bool) → p k ≡ b → is_some (cond b (find k m) none) ≡ true → (has k m ≡ true) × (p k ≡ true)
      go true e q = (q, e)
      go false e q = absurd (false≢true q)

  pub keep-has : (k : ℕ) (p : ℕ → Bool) (m : Map F) → has k m ≡ true → p k ≡ true → has k (keep p m) ≡ true
  keep-has k p m h e = simp (find-keep k p m, e) h

  pub has-put_all : (k : ℕ) (rs m : Map F) → has k (put_all rs m) ≡ true → (has k rs ≡ true) ⊎ (has k m ≡ true)
  has-put_all k rs m h = go (find k rs) refl (rw (find-put_all k rs m) at h)
    where
      go : (o : Option F) → find k rs ≡ o → is_some (or_else o (find k m)) ≡ true → (has k rs ≡ true) ⊎ (has k m ≡ true)
      go none e q = inr q
      go (some v) e q = inl (ap is_some e)

  pub has-del_all : (k : ℕ) (rs m : Map F) → has k (del_all rs m) ≡ true → has k m ≡ true
  has-del_all k rs m h = go (has k rs) (rw (find-del_all k rs m) at h)
    where
      go : (b : Bool) → is_some (cond b none (find k m)) ≡ true → has k m ≡ true
      go true q = absurd (false≢true q)
      go false q = q

  pub keep-true : (p : ℕ → Bool) (m : Map F) → ((k : ℕ) → p k ≡ true) → keep p m ≡ m
  unfolding keep
  keep-true p [] h = refl
  keep-true p (x ∷ m) h = simp (h x.key, keep-true p m h)

  pub keep_same : (p q : ℕ → Bool) (m : Map F) → ((k : ℕ) → p k ≡ q k) → keep p m ≡ keep q m
  unfolding keep
  keep_same p q [] h = refl
  keep_same p q (x ∷ m) h = rw (h x.key, keep_same p q m h)

  -- two tests, one after the other
  pub keep-keep : (p q : ℕ → Bool) (m : Map F) → keep p (keep q m) ≡ keep (λ k. q k && p k) m
  unfolding keep
  keep-keep p q [] = refl
  keep-keep p q (x ∷ m) = go (q x.key) (p x.key) refl (keep-keep p q m)
    where
      go : (b c : Bool) → p x.key ≡ c → keep p (keep q m) ≡ keep (λ k. q k && p k) m →
          keep p (cond b (x ∷ keep q m) (keep q m)) ≡ cond (b && c) (x ∷ keep (λ k. q k && p k) m) (keep (λ k. q k && p k) m)
      go true true e ih = rw e (ap (λ (n : Map F). x ∷ n) ih)
      go true false e ih = rw e ih
      go false c e ih = ih

  pub keep_none : (p : ℕ → Bool) (m : Map F) → ((k : ℕ) → p k ≡ false) → keep p m ≡ []
  unfolding keep
  keep_none p [] h = refl
  keep_none p (x ∷ m) h = simp (h x.key, keep_none p m h)

  -- a test on the keys passes on some row exactly where it passes on some key that stands
  pub any-key : (p : ℕ → Bool) (m : Map F) → any (λ x. p x.key) m ≡ true → (k : ℕ) × (has k m ≡ true) × (p k ≡ true)
  unfolding any find
  any-key p [] e = absurd (false≢true e)
  any-key p (x ∷ m) e = go (p x.key) refl (any-key p m)
    where
      up : (k : ℕ) (b : Bool) → has k m ≡ true → is_some (cond b (some x.val) (find k m)) ≡ true
      up k true h = refl
      up k false h = h

      go : (b : Bool) → p x.key ≡ b → (any (λ x. p x.key) m ≡ true → (k : ℕ) × (has k m ≡ true) × (p k ≡ true)) →
          (k : ℕ) × (has k (x ∷ m) ≡ true) × (p k ≡ true)
      go true h ih = (x.key, ap is_some (find_self x m), h)
      go false h ih = let i = ih (simp h at e) in (i.0, up i.0 (eqb i.0 x.key) i.1, i.2)

  pub key-any : (p : ℕ → Bool) (m : Map F) (k : ℕ) → has k m ≡ true → p k ≡ true → any (λ x. p x.key) m ≡ true
  unfolding any find
  key-any p [] k h e = absurd (false≢true h)
  key-any p (x ∷ m) k h e = go (eqb k x.key) refl (key-any p m k)
    where
      or-true : (b c : Bool) → c ≡ true → b || c ≡ true
      or-true true c h = refl
      or-true false c h = h

      go : (b : Bool) → eqb k x.key ≡ b → (has k m ≡ true → p k ≡ true → any (λ x. p x.key) m ≡ true) → p x.key || any (λ x. p x.key) m ≡ true
      go true q ih = simp (← eqb-true k x.key q, e)
      go false q ih = or-true (p x.key) (any (λ x. p x.key) m) (ih (simp q at h) e)
