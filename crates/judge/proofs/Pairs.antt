-- Some element, some two elements that pass a test: of lists, and of maps as rows are put in and taken out.
use Prim.Native.Nat.{ℕ}
use mathlib.Core.Path.{◌≡◌, refl, sym, ap, ap₂, ◌∙◌}
use mathlib.Core.Bool.{Bool, true, false, cond, not, ◌&&◌, ◌||◌, true≢false, and-true, and-false, or-false, or_assoc}
use mathlib.Core.List.{List, [], ◌∷◌, map}
use mathlib.Core.Option.{Option, none, some}
use lib.Dec.{eqb}
use Rattle.laws.specs.Lists.{any, some_pair}
use Rattle.laws.proofs.Order.{Tri, below, equal, above, tri}
use Rattle.laws.proofs.Truth.{or_left, or_right, or_swap, or_mix}
use Rattle.laws.proofs.Lists.{any_or}
use Rattle.laws.proofs.Every.{Every}
use Rattle.model.specs.Map.{Row, Map, is_some, or_else, find, has, put, put_all, del_all, keep, Asc, any_in, twice}
use Rattle.model.proofs.Lists.{any_same}
use Rattle.model.proofs.MapLaws.{find-keep, find-put_all, asc_keep, asc_put_all, ext}
use Rattle.checks.proofs.RowTests.{has_more, has_first}

-- ---- lists

module _ {A : Type 0} where
  -- tests that agree on every element
  pub any_agree : {P : A → Type 0} (p q : A → Bool) (l : List A) → ((x : A) → P x → p x ≡ q x) → Every P l → any p l ≡ any q l
  unfolding any
  any_agree p q [] f h = refl
  any_agree p q (x ∷ l) f h = ap₂ (λ (a b : Bool). a || b) (f x h.0) (any_agree p q l f h.1)

  -- some element with some element, where none goes with itself: some two, one way round or the other
  pub all_pairs : (p : A → A → Bool) (l : List A) → Every (λ x. p x x ≡ false) l → any (λ c. any (p c) l) l ≡ some_pair (λ a b. p a b || p b a) l
  unfolding any some_pair
  all_pairs p [] h = refl
  all_pairs p (x ∷ l) h =
      let back : Bool = any (λ c. p c x) l in
      ap (λ (b : Bool). (b || any (p x) l) || any (λ c. p c x || any (p c) l) l) h.0
      ∙ ap (λ (b : Bool). any (p x) l || b) (any_or (λ c. p c x) (λ c. any (p c) l) l ∙ ap (λ (b : Bool). back || b) (all_pairs p l h.1))
      ∙ sym (or_assoc (any (p x) l) back (some_pair (λ a b. p a b || p b a) l))
      ∙ ap (λ (b : Bool). b || some_pair (λ a b. p a b || p b a) l) (sym (any_or (p x) (λ b. p b x) l))

module _ {A B : Type 0} (f : A → B) where
  pub any-map : (q : B → Bool) (l : List A) → any q (map f l) ≡ any (λ x. q (f x)) l
  unfolding any
  any-map q [] = refl
  any-map q (x ∷ l) = ap (λ (b : Bool). q (f x) || b) (any-map q l)

  pub pair_map : (p : B → B → Bool) (l : List A) → some_pair p (map f l) ≡ some_pair (λ x y. p (f x) (f y)) l
  unfolding some_pair
  pair_map p [] = refl
  pair_map p (x ∷ l) = ap₂ (λ (a b : Bool). a || b) (any-map (p (f x)) l) (pair_map p l)

-- ---- rows put in and taken out

module _ {F : Type 0} where
  -- the rows of m that rs does not replace
  abbrev others : Map F → Map F → Map F
  others rs m = keep (λ k. not (has k rs)) m

  any-put : (q : Row F → Bool) (r : Row F) (m : Map F) → has r.key m ≡ false → any q (put r m) ≡ q r || any q m
  unfolding any put find
  any-put q r [] h = refl
  any-put q r (x ∷ m) h = go (tri r.key x.key) (any-put q r m)
    where
      go : Tri r.key x.key → (has r.key m ≡ false → any q (put r m) ≡ q r || any q m) → any q (put r (x ∷ m)) ≡ q r || any q (x ∷ m)
      go (below l a b) ih = simp (a, b)
      go (equal l a b) ih = absurd (true≢false (simp b at h))
      go (above l a b) ih = simp (a, b, ih (simp b at h)) (or_swap (q x) (q r) (any q m))

  any_kept : (q : Row F → Bool) (f : ℕ → Bool) (m : Map F) → any q (keep f m) ≡ any (λ x. q x && f x.key) m
  unfolding any keep
  any_kept q f [] = refl
  any_kept q f (x ∷ m) = go (f x.key) (any_kept q f m)
    where
      go : (b : Bool) → any q (keep f m) ≡ any (λ x. q x && f x.key) m → any q (cond b (x ∷ keep f m) (keep f m)) ≡ (q x && b) || any (λ x. q x && f x.key) m
      go true ih = ap₂ (λ (c d : Bool). c || d) (sym (and-true (q x))) ih
      go false ih = ih ∙ ap (λ (c : Bool). c || any (λ x. q x && f x.key) m) (sym (and-false (q x)))

  pub any_keep : (q : Row F → Bool) (f : ℕ → Bool) (m : Map F) → any q m ≡ false → any q (keep f m) ≡ false
  unfolding any keep
  any_keep q f [] h = refl
  any_keep q f (x ∷ m) h = go (f x.key) (any_keep q f m (or_right (q x) (any q m) h))
    where
      go : (b : Bool) → any q (keep f m) ≡ false → any q (cond b (x ∷ keep f m) (keep f m)) ≡ false
      go true ih = rw (or_left (q x) (any q m) h) ih
      go false ih = ih

  -- a key that stands neither in rs nor in m does not stand in rs put into m
  neither : (k : ℕ) (rs m : Map F) → has k rs ≡ false → has k m ≡ false → has k (put_all rs m) ≡ false
  neither k rs m a b = rw (find-put_all k rs m) (go (find k rs) a)
    where
      go : (o : Option F) → is_some o ≡ false → is_some (or_else o (find k m)) ≡ false
      go none e = b
      go (some v) e = absurd (true≢false e)

  -- no key of rs stands among the others
  apart : (rs qs m : Map F) → ((k : ℕ) → has k rs ≡ true → has k qs ≡ true) → any_in rs (others qs m) ≡ false
  unfolding any any_in
  apart [] qs m h = refl
  apart (r ∷ rs) qs m h =
      let g : has r.key (others qs m) ≡ false = simp (find-keep r.key (λ j. not (has j qs)) m, h r.key (has_first r rs)) in
      rw g (apart rs qs m (λ k g. h k (has_more r rs k g)))

  same_put : (rs m : Map F) → Asc 0 m → put_all rs m ≡ put_all rs (others rs m)
  same_put rs m h =
      ext 0 (put_all rs m) (put_all rs (others rs m)) (asc_put_all rs m h) (asc_put_all rs (others rs m) (asc_keep 0 (λ k. not (has k rs)) m h))
      (λ k. find-put_all k rs m ∙ go k (find k rs) refl ∙ sym (find-put_all k rs (others rs m)))
    where
      go : (k : ℕ) (o : Option F) → find k rs ≡ o → or_else (find k rs) (find k m) ≡ or_else (find k rs) (find k (others rs m))
      go k none e = simp (e, find-keep k (λ k. not (has k rs)) m)
      go k (some v) e = simp e

  any_all : (q : Row F → Bool) (rs m : Map F) → twice rs ≡ false → any_in rs m ≡ false → any q (put_all rs m) ≡ any q rs || any q m
  unfolding any put_all twice any_in
  any_all q [] m t a = refl
  any_all q (r ∷ rs) m t a =
      any-put q r (put_all rs m) (neither r.key rs m (or_left (has r.key rs) (twice rs) t) (or_left (has r.key m) (any_in rs m) a))
      ∙ ap (λ (b : Bool). q r || b) (any_all q rs m (or_right (has r.key rs) (twice rs) t) (or_right (has r.key m) (any_in rs m) a))
      ∙ sym (or_assoc (q r) (any q rs) (any q m))

  -- a test of one row that none of m passes: enough to look at the rows put in
  pub any-put_all : (q : Row F → Bool) (rs m : Map F) → twice rs ≡ false → Asc 0 m → any q m ≡ false → any q (put_all rs m) ≡ any q rs
  any-put_all q rs m t h e =
      ap (any q) (same_put rs m h)
      ∙ any_all q rs (others rs m) t (apart rs rs m (λ k g. g))
      ∙ ap (λ (b : Bool). any q rs || b) (any_keep q (λ k. not (has k rs)) m e)
      ∙ or-false (any q rs)

  keep_swap : (p q : ℕ → Bool) (m : Map F) → keep p (keep q m) ≡ keep q (keep p m)
  unfolding keep
  keep_swap p q [] = refl
  keep_swap p q (x ∷ m) = go (p x.key) refl (q x.key) refl (keep_swap p q m)
    where
      go : (b : Bool) → p x.key ≡ b → (c : Bool) → q x.key ≡ c → keep p (keep q m) ≡ keep q (keep p m) → keep p (keep q (x ∷ m)) ≡ keep q (keep p (x ∷ m))
      go true e true f ih = simp (e, f, ih)
      go true e false f ih = simp (e, f, ih)
      go false e true f ih = simp (e, f, ih)
      go false e false f ih = simp (e, f, ih)

  -- a test that fails of fewer rows, too, fails of those that pass f after rows were taken out
  pub fails_less : (t : Map F → Bool) → ((f : ℕ → Bool) (m : Map F) → t m ≡ false → t (keep f m) ≡ false) →
      (f : ℕ → Bool) (rs m : Map F) → t (keep f m) ≡ false → t (keep f (del_all rs m)) ≡ false
  unfolding del_all
  fails_less t less f [] m e = e
  fails_less t less f (r ∷ rs) m e =
      ap t (keep_swap f (λ j. not (eqb j r.key)) (del_all rs m))
      ∙ less (λ j. not (eqb j r.key)) (keep f (del_all rs m)) (fails_less t less f rs m e)

  module _ (p : Row F → Row F → Bool) where
    pub pair_keep : (f : ℕ → Bool) (m : Map F) → some_pair p m ≡ false → some_pair p (keep f m) ≡ false
    unfolding some_pair keep
    pair_keep f [] h = refl
    pair_keep f (x ∷ m) h = go (f x.key) (pair_keep f m (or_right (any (p x) m) (some_pair p m) h))
      where
        go : (b : Bool) → some_pair p (keep f m) ≡ false → some_pair p (cond b (x ∷ keep f m) (keep f m)) ≡ false
        go true ih = rw (any_keep (p x) f m (or_left (any (p x) m) (some_pair p m) h)) ih
        go false ih = ih

    module _ (mirror : (x y : Row F) → p x y ≡ p y x) where
      pair_put : (r : Row F) (m : Map F) → has r.key m ≡ false → some_pair p (put r m) ≡ any (p r) m || some_pair p m
      unfolding any some_pair put find
      pair_put r [] h = refl
      pair_put r (x ∷ m) h = go (tri r.key x.key) (pair_put r m)
        where
          go : Tri r.key x.key → (has r.key m ≡ false → some_pair p (put r m) ≡ any (p r) m || some_pair p m) →
              some_pair p (put r (x ∷ m)) ≡ any (p r) (x ∷ m) || some_pair p (x ∷ m)
          go (below l a b) ih = simp (a, b)
          go (equal l a b) ih = absurd (true≢false (simp b at h))
          go (above l a b) ih =
              simp (a, b, any-put (p x) r m (simp b at h), ih (simp b at h), mirror x r) (or_mix (p r x) (any (p x) m) (any (p r) m) (some_pair p m))

      -- some two of rs, or one of rs and one of m
      abbrev across : Map F → Map F → Bool
      across rs m = some_pair p rs || any (λ x. any (p x) m) rs

      pair_all : (rs m : Map F) → twice rs ≡ false → any_in rs m ≡ false → some_pair p (put_all rs m) ≡ across rs m || some_pair p m
      unfolding any some_pair put_all twice any_in
      pair_all [] m t a = refl
      pair_all (r ∷ rs) m t a =
          let u = or_right (has r.key rs) (twice rs) t in
          let b = or_right (has r.key m) (any_in rs m) a in
          pair_put r (put_all rs m) (neither r.key rs m (or_left (has r.key rs) (twice rs) t) (or_left (has r.key m) (any_in rs m) a))
          ∙ ap₂ (λ (c d : Bool). c || d) (any_all (p r) rs m u b) (pair_all rs m u b)
          ∙ sym (or_assoc (any (p r) rs || any (p r) m) (across rs m) (some_pair p m))
          ∙ ap (λ (c : Bool). c || some_pair p m) (or_mix (any (p r) rs) (any (p r) m) (some_pair p rs) (any (λ x. any (p x) m) rs))

      -- a test of two rows that no two of m pass: enough to look at those with a row put in
      pub pair_put_all : (rs m : Map F) → twice rs ≡ false → Asc 0 m → some_pair p m ≡ false →
          some_pair p (put_all rs m) ≡ some_pair p rs || any (λ x. any (λ y. p x y && not (has y.key rs)) m) rs
      pair_put_all rs m t h e =
          ap (some_pair p) (same_put rs m h)
          ∙ pair_all rs (others rs m) t (apart rs rs m (λ k g. g))
          ∙ ap (λ (b : Bool). across rs (others rs m) || b) (pair_keep (λ k. not (has k rs)) m e)
          ∙ or-false (across rs (others rs m))
          ∙ ap (λ (b : Bool). some_pair p rs || b) (any_same _ _ rs (λ x. any_kept (p x) (λ k. not (has k rs)) m))
