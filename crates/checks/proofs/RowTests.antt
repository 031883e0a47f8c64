-- Tests of every row and of every key of a map, as rows are put in and taken out.
use Prim.Native.Nat.{ℕ, ◌^◌}
use mathlib.Core.Path.{◌≡◌, refl, ap, ◌∙◌}
use mathlib.Core.Bool.{Bool, true, false, cond, not, ◌&&◌, ◌||◌, false≢true}
use mathlib.Core.List.{[], ◌∷◌}
use mathlib.Core.Option.{some}
use lib.Dec.{eqb, ltb}
use borrow.Author.Tests.{eqb-true, eq-eqb, ltb-true, lt-ltb}
use Rattle.laws.specs.Lists.{all}
use Rattle.laws.proofs.Truth.{and_left, and_right, and-false}
use Rattle.laws.proofs.Every.{and_tell}
use Rattle.model.specs.Map.{Row, Map, is_some, find, has, put, keep, put_all, del_all}
use Rattle.model.proofs.MapLaws.{keep_same, keep-keep}
use Rattle.model.specs.Transmission.{Kind, insert, vary, cancel}
use Rattle.model.specs.Flow.{State, applied}
use Rattle.register.specs.Stored.{Group, key_bits_of, key_part, past_key, Sized, Fits}
use Rattle.home_care.specs.Row.{siad}

-- a test of every row
module _ {F : Type 0} (q : Row F → Bool) where
  pub all-put : (r : Row F) (m : Map F) → q r ≡ true → all q m ≡ true → all q (put r m) ≡ true
  unfolding all put
  all-put r [] a b = rw a
  all-put r (x ∷ m) a b =
      let e : q x ≡ true = and_left (q x) (all q m) b in
      let f : all q m ≡ true = and_right (q x) (all q m) b in
      go (ltb r.key x.key) (eqb r.key x.key) e f (all-put r m a f)
    where
      go : (c d : Bool) → q x ≡ true → all q m ≡ true → all q (put r m) ≡ true →
          all q (cond c (r ∷ x ∷ m) (cond d (r ∷ m) (x ∷ put r m))) ≡ true
      go true d e f ih = rw a b
      go false true e f ih = rw a f
      go false false e f ih = rw e ih

  pub all_keep : (p : ℕ → Bool) (m : Map F) → all q m ≡ true → all q (keep p m) ≡ true
  unfolding all keep
  all_keep p [] b = refl
  all_keep p (x ∷ m) b = go (p x.key) (all_keep p m (and_right (q x) (all q m) b))
    where
      go : (c : Bool) → all q (keep p m) ≡ true → all q (cond c (x ∷ keep p m) (keep p m)) ≡ true
      go true ih = rw (and_left (q x) (all q m) b) ih
      go false ih = ih

  pub all-put_all : (rs m : Map F) → all q rs ≡ true → all q m ≡ true → all q (put_all rs m) ≡ true
  unfolding all put_all
  all-put_all [] m a b = b
  all-put_all (r ∷ rs) m a b =
      all-put r (put_all rs m) (and_left (q r) (all q rs) a) (all-put_all rs m (and_right (q r) (all q rs) a) b)

  pub all-del_all : (rs m : Map F) → all q m ≡ true → all q (del_all rs m) ≡ true
  unfolding del_all
  all-del_all [] m b = b
  all-del_all (r ∷ rs) m b = all_keep (λ j. not (eqb j r.key)) (del_all rs m) (all-del_all rs m b)

-- the rows that a record leaves: its own, and those that stood
module _ {F E : Type 0} (cs : Map F) (es : Map E) (w : ℕ → Bool) (s : State F E) where
  pub all-cases : (q : Row F → Bool) (t : Kind) → all q cs ≡ true → all q s.cases ≡ true → all q (applied t cs es w s).cases ≡ true
  all-cases q insert a b = all-put_all q cs s.cases a b
  all-cases q vary a b = all-put_all q cs s.cases a b
  all-cases q cancel a b = all-del_all q cs s.cases b

  pub all-events : (q : Row E → Bool) (t : Kind) → all q es ≡ true → all q s.events ≡ true → all q (applied t cs es w s).events ≡ true
  all-events q insert a b = all-put_all q es s.events a b
  all-events q vary a b = all-put_all q es s.events a b
  all-events q cancel a b = all_keep q (λ k. not (w k)) (del_all es s.events) (all-del_all q es s.events b)

-- a key of the rows behind the first, and the first one's
module _ {F : Type 0} (x : Row F) (m : Map F) where
  pub has_more : (k : ℕ) → has k m ≡ true → has k (x ∷ m) ≡ true
  unfolding find
  has_more k h = go (eqb k x.key)
    where
      go : (b : Bool) → is_some (cond b (some x.val) (find k m)) ≡ true
      go true = refl
      go false = h

  pub has_first : has x.key (x ∷ m) ≡ true
  unfolding find
  has_first = simp (eq-eqb x.key x.key refl)

-- a test of every key
module _ {F : Type 0} (p : ℕ → Bool) where
  pub all-key : (m : Map F) → all (λ x. p x.key) m ≡ true → (k : ℕ) → has k m ≡ true → p k ≡ true
  unfolding all find
  all-key [] a k h = absurd (false≢true h)
  all-key (x ∷ m) a k h = go (eqb k x.key) refl (all-key m (and_right (p x.key) (all (λ x. p x.key) m) a) k)
    where
      go : (b : Bool) → eqb k x.key ≡ b → (has k m ≡ true → p k ≡ true) → p k ≡ true
      go true e ih = ap p (eqb-true k x.key e) ∙ and_left (p x.key) (all (λ x. p x.key) m) a
      go false e ih = ih (simp e at h)

  pub key-all : (m : Map F) → ((k : ℕ) → has k m ≡ true → p k ≡ true) → all (λ x. p x.key) m ≡ true
  unfolding all
  key-all [] h = refl
  key-all (x ∷ m) h =
      and_tell (p x.key) (all (λ x. p x.key) m) (h x.key (has_first x m)) (key-all m (λ k g. h k (has_more x m k g)))

  -- rows none of whose keys passes
  pub keep_no : (m : Map F) → ((k : ℕ) → has k m ≡ true → p k ≡ false) → keep p m ≡ []
  unfolding keep
  keep_no [] h = refl
  keep_no (x ∷ m) h = rw (h x.key (has_first x m)) (keep_no m (λ k g. h k (has_more x m k g)))

  -- rows all of whose keys pass a second test
  pub keep_within : (q : ℕ → Bool) (m : Map F) → ((k : ℕ) → p k ≡ true → q k ≡ true) → keep p (keep q m) ≡ keep p m
  keep_within q m h = keep-keep p q m ∙ keep_same (λ k. q k && p k) p m (λ k. both (p k) (q k) (h k))
    where
      both : (a b : Bool) → (a ≡ true → b ≡ true) → b && a ≡ a
      both true b f = rw (f refl)
      both false b f = and-false b

  -- a test of the rows whose keys pass, as one of every row
  pub kept_all : (q : Row F → Bool) (m : Map F) → all q (keep p m) ≡ all (λ x. not (p x.key) || q x) m
  unfolding all keep
  kept_all q [] = refl
  kept_all q (x ∷ m) = go (p x.key) (kept_all q m)
    where
      go : (b : Bool) → all q (keep p m) ≡ all (λ x. not (p x.key) || q x) m →
          all q (cond b (x ∷ keep p m) (keep p m)) ≡ (not b || q x) && all (λ x. not (p x.key) || q x) m
      go true ih = ap (λ (c : Bool). q x && c) ih
      go false ih = ih

-- rows have their sizes: as a test of every row
module _ (g : Group) (r : Row ℕ) where
  abbrev key_sized : Bool
  key_sized = ltb r.key (2 ^ key_bits_of g siad)

  abbrev val_sized : Bool
  val_sized = ltb r.val (2 ^ past_key g siad r.key)

  abbrev pub sized : Bool
  sized = key_sized && (val_sized && eqb (key_part g siad r.key) r.key)

  sized_row : sized ≡ true → Sized g siad r
  sized_row e =
      let v = and_right key_sized _ e in
      (ltb-true r.key _ (and_left key_sized _ e), ltb-true r.val _ (and_left val_sized _ v), eqb-true (key_part g siad r.key) r.key (and_right val_sized _ v))

  pub row_sized : Sized g siad r → sized ≡ true
  row_sized f = and_tell key_sized _ (lt-ltb _ _ f.0) (and_tell val_sized _ (lt-ltb _ _ f.1) (eq-eqb _ _ f.2))

pub sized_fits : (g : Group) (m : Map ℕ) → all (sized g) m ≡ true → Fits g siad m
unfolding all Fits
sized_fits g [] a = tt
sized_fits g (r ∷ m) a = (sized_row g r (and_left (sized g r) (all (sized g) m) a), sized_fits g m (and_right (sized g r) (all (sized g) m) a))

pub fits_sized : (g : Group) (m : Map ℕ) → Fits g siad m → all (sized g) m ≡ true
unfolding all Fits
fits_sized g [] f = refl
fits_sized g (r ∷ m) f = and_tell (sized g r) (all (sized g) m) (row_sized g r f.0) (fits_sized g m f.1)
