-- Rows that a lookup finds, and the last of them that passes a test.
use Prim.Native.Nat.{ℕ, suc, ◌≤◌}
use mathlib.Core.Path.{◌≡◌, refl, sym, ap, subst, ◌∙◌}
use mathlib.Core.Bool.{Bool, true, false, cond, true≢false}
use mathlib.Core.List.{[], ◌∷◌}
use mathlib.Core.Option.{Option, none, some}
use native.Mathlib.Omega.{arith}
use lib.Dec.{eqb}
use borrow.Author.Tests.{eqb-true, eq-eqb, ne_eqb}
use Rattle.laws.proofs.Every.{Every}
use Rattle.model.specs.Map.{Row, Map, Asc, find, keep, or_else, last_of}
use Rattle.register.specs.Layout.{Layout}
use Rattle.register.specs.Stored.{Group, Sized, Fits}

-- r stands in m
abbrev pub Stands : Row ℕ → Map ℕ → Type 0
Stands r m = find r.key m ≡ some r.val

some_same : {A : Type 0} (a b : A) → some a ≡ some b → a ≡ b
some_same a b e = cc

pub none-some : {A : Type 0} (a : A) → none ≡ some a → ⊥
none-some a e = let z : ◌≡◌ {A = ℕ} 0 1 = cc in omega arith

-- a row that stands is the first, or stands in the rest
pub first_or : {P : Type 0} (r x : Row ℕ) (m : Map ℕ) → Stands r (x ∷ m) → (r ≡ x → P) → (Stands r m → P) → P
unfolding find
first_or {P} r x m h f g = go (eqb r.key x.key) refl h
  where
    go : (b : Bool) → eqb r.key x.key ≡ b → cond b (some x.val) (find r.key m) ≡ some r.val → P
    go true e h =
        let k : r.key ≡ x.key = eqb-true r.key x.key e in
        let v : r.val ≡ x.val = sym (some_same x.val r.val h) in
        f (λ i. record { key = k i; val = v i })
    go false e h = g h

-- what holds of every row holds of one that stands
pub every_stands : (P : Row ℕ → Type 0) (m : Map ℕ) (r : Row ℕ) → Every P m → Stands r m → P r
unfolding find
every_stands P [] r h s = absurd (none-some r.val s)
every_stands P (x ∷ m) r h s = first_or r x m s (λ e. subst P (sym e) h.0) (λ t. every_stands P m r h.1 t)

pub every_keep : (P : Row ℕ → Type 0) (p : ℕ → Bool) (m : Map ℕ) → Every P m → Every P (keep p m)
unfolding keep
every_keep P p [] h = tt
every_keep P p (x ∷ m) h = go (p x.key) (every_keep P p m h.1)
  where
    go : (b : Bool) → Every P (keep p m) → Every P (cond b (x ∷ keep p m) (keep p m))
    go true k = (h.0, k)
    go false k = k

pub fits_every : (g : Group) (l : Layout) (m : Map ℕ) → Fits g l m → Every (Sized g l) m
unfolding Fits
fits_every g l [] h = tt
fits_every g l (x ∷ m) h = (h.0, fits_every g l m h.1)

-- ---- the last that passes

module _ (p : Row ℕ → Bool) where
  -- where there is none, no row passes
  pub none_told : (m : Map ℕ) → last_of p m ≡ none → Every (λ r. p r ≡ false) m
  unfolding last_of
  none_told [] h = tt
  none_told (x ∷ m) h = go (last_of p m) refl (p x) refl h (none_told m)
    where
      go : (o : Option (Row ℕ)) → last_of p m ≡ o → (b : Bool) → p x ≡ b → or_else o (cond b (some x) none) ≡ none → (last_of p m ≡ none → Every (λ r. p r ≡ false) m) →
          Every (λ r. p r ≡ false) (x ∷ m)
      go none e true t h ih = absurd (none-some x (sym h))
      go none e false t h ih = (t, ih e)
      go (some r) e b t h ih = absurd (none-some r (sym h))

  -- where there is one, it passes, and it is one of them
  pub some_told : (P : Row ℕ → Type 0) (m : Map ℕ) (r : Row ℕ) → Every P m → last_of p m ≡ some r → P r × (p r ≡ true)
  unfolding last_of
  some_told P [] r h s = absurd (none-some r s)
  some_told P (x ∷ m) r h s = go (last_of p m) refl (p x) refl s (some_told P m r h.1)
    where
      go : (o : Option (Row ℕ)) → last_of p m ≡ o → (b : Bool) → p x ≡ b → or_else o (cond b (some x) none) ≡ some r → (last_of p m ≡ some r → P r × (p r ≡ true)) → P r × (p r ≡ true)
      go none e true t s ih = subst (λ (y : Row ℕ). P y × (p y ≡ true)) (some_same x r s) (h.0, t)
      go none e false t s ih = absurd (none-some r s)
      go (some q) e b t s ih = ih (e ∙ s)

  -- where keys ascend, it is the one that its key finds, and no other that passes has a greater key
  pub record Greatest (m : Map ℕ) (r : Row ℕ) : Type 0 where
    pub stands : Stands r m
    pub passes : p r ≡ true
    pub above : (q : Row ℕ) → Stands q m → p q ≡ true → q.key ≤ r.key

  pub greatest : (b : ℕ) (m : Map ℕ) (r : Row ℕ) → Asc b m → last_of p m ≡ some r → Greatest m r × (b ≤ r.key)
  unfolding last_of Asc find
  greatest b [] r h s = absurd (none-some r s)
  greatest b (x ∷ m) r h s = go (last_of p m) refl (p x) refl s (greatest (suc x.key) m r h.1)
    where
      later : Greatest m r × (suc x.key ≤ r.key) → Greatest (x ∷ m) r × (b ≤ r.key)
      later g = (
        record {
          stands = rw (ne_eqb r.key x.key (λ e. omega arith)) g.0.stands;
          passes = g.0.passes;
          above = λ q t u. first_or q x m t (λ e. let k : q.key ≡ x.key = ap (λ (y : Row ℕ). y.key) e in omega arith) (λ v. g.0.above q v u);
        },
        omega arith,
      )

      here : x ≡ r → p x ≡ true → Every (λ q. p q ≡ false) m → Greatest (x ∷ m) r × (b ≤ r.key)
      here e t n =
          let k : x.key ≡ r.key = ap (λ (y : Row ℕ). y.key) e in (
            record {
              stands = rw (eq-eqb r.key x.key (sym k)) (ap (λ (y : Row ℕ). some y.val) e);
              passes = ap p (sym e) ∙ t;
              above = λ q v u.
                  first_or q x m v (λ f. let j : q.key ≡ x.key = ap (λ (y : Row ℕ). y.key) f in omega arith)
                  (λ w. absurd (true≢false (sym u ∙ every_stands (λ y. p y ≡ false) m q n w)));
            },
            omega arith,
          )

      go : (o : Option (Row ℕ)) → last_of p m ≡ o → (t : Bool) → p x ≡ t → or_else o (cond t (some x) none) ≡ some r → (last_of p m ≡ some r → Greatest m r × (suc x.key ≤ r.key)) →
          Greatest (x ∷ m) r × (b ≤ r.key)
      go none e true t s ih = here (some_same x r s) t (none_told m e)
      go none e false t s ih = absurd (none-some r s)
      go (some q) e b' t s ih = later (ih (e ∙ s))
