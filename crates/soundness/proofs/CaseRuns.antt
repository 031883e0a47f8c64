-- Cases and events in one walk: each case's events are the next ones, and none is left over. Good runs suffice: events of different cases are in order
-- because the cases ascend.
use Prim.Native.Nat.{ℕ, suc, ◌≤◌, ◌<◌}
use mathlib.Core.Path.{◌≡◌, refl, sym, ap, ◌∙◌, subst}
use mathlib.Core.Logic.{◌⊎◌, inl, inr}
use mathlib.Core.Bool.{Bool, true, false, cond, ◌&&◌, false≢true}
use mathlib.Core.List.{List, [], ◌∷◌, ◌++◌}
use native.Mathlib.Omega.{arith}
use lib.Dec.{eqb}
use borrow.Author.Tests.{eqb-true, eq-eqb, ne_eqb}
use Rattle.laws.specs.Lists.{all}
use Rattle.laws.proofs.Order.{Tri, below, equal, above, tri}
use Rattle.laws.proofs.Lists.{all_append, all_left, all_right, all_join}
use Rattle.laws.proofs.Truth.{and_left, and_right, and-false}
use Rattle.laws.proofs.Every.{Every, every_map, all_told, all_tell, same_truth, and_tell}
use Rattle.model.specs.Map.{Row, Map, find, has, keep, Asc, is_some}
use Rattle.model.proofs.MapLaws.{asc_weaken, find_below}
use Rattle.register.specs.Sound.{Rules, ascending}
use Rattle.register.proofs.Ascending.{asc_told, asc_tell}
use Rattle.soundness.specs.Walk.{run_of, good_run}

and_swap : (a b c : Bool) → (a && (b && c)) ≡ (b && (a && c))
and_swap true b c = refl
and_swap false true c = refl
and_swap false false c = refl

pub all_cong : {A : Type 0} (p q : A → Bool) (l : List A) → Every (λ x. p x ≡ q x) l → all p l ≡ all q l
unfolding all
all_cong p q [] h = refl
all_cong p q (x ∷ l) h = simp (h.0, all_cong p q l h.1)

pub keep_append : (p : ℕ → Bool) (us vs : Map ℕ) → keep p (us ++ vs) ≡ keep p us ++ keep p vs
unfolding keep
keep_append p [] vs = refl
keep_append p (u ∷ us) vs = go (p u.key) refl (keep_append p us vs)
  where
    go : (b : Bool) → p u.key ≡ b → keep p (us ++ vs) ≡ keep p us ++ keep p vs → keep p (u ∷ (us ++ vs)) ≡ keep p (u ∷ us) ++ keep p vs
    go true e ih = simp (e, ih)
    go false e ih = simp (e, ih)

pub keep_every : (p : ℕ → Bool) (m : Map ℕ) → Every (λ x. p x.key ≡ true) m → keep p m ≡ m
unfolding keep
keep_every p [] h = refl
keep_every p (x ∷ m) h = simp (h.0, keep_every p m h.1)

pub keep_none : (p : ℕ → Bool) (m : Map ℕ) → Every (λ x. p x.key ≡ false) m → keep p m ≡ []
unfolding keep
keep_none p [] h = refl
keep_none p (x ∷ m) h = simp (h.0, keep_none p m h.1)

-- later keys are no smaller
asc_every : (b : ℕ) (m : Map ℕ) → Asc b m → Every (λ x. b ≤ x.key) m
unfolding Asc
asc_every b [] h = tt
asc_every b (x ∷ m) h = (h.0, every_map m (λ y k. omega arith) (asc_every (suc x.key) m h.1))

module _ (own : ℕ → ℕ) where
  -- what follows the rows of the case c at the front
  unfoldable pub rest_of : ℕ → Map ℕ → Map ℕ
  rest_of c [] = []
  rest_of c (x ∷ m) = cond (eqb (own x.key) c) (rest_of c m) (x ∷ m)

  pub run_rest : (c : ℕ) (m : Map ℕ) → run_of own c m ++ rest_of c m ≡ m
  unfolding run_of rest_of
  run_rest c [] = refl
  run_rest c (x ∷ m) = go (eqb (own x.key) c) refl (run_rest c m)
    where
      go : (b : Bool) → eqb (own x.key) c ≡ b → run_of own c m ++ rest_of c m ≡ m → run_of own c (x ∷ m) ++ rest_of c (x ∷ m) ≡ x ∷ m
      go true e h = simp (e, h)
      go false e h = simp e

  pub run_own : (c : ℕ) (m : Map ℕ) → Every (λ x. own x.key ≡ c) (run_of own c m)
  unfolding run_of
  run_own c [] = tt
  run_own c (x ∷ m) = go (eqb (own x.key) c) refl (run_own c m)
    where
      go : (b : Bool) → eqb (own x.key) c ≡ b → Every (λ x. own x.key ≡ c) (run_of own c m) → Every (λ x. own x.key ≡ c) (run_of own c (x ∷ m))
      go true e h = simp e (eqb-true _ _ e, h)
      go false e h = simp e tt

  rest_asc : (b c : ℕ) (m : Map ℕ) → Asc b m → Asc b (rest_of c m)
  unfolding rest_of Asc
  rest_asc b c [] h = tt
  rest_asc b c (x ∷ m) h = go (eqb (own x.key) c) refl (rest_asc (suc x.key) c m h.1)
    where
      go : (d : Bool) → eqb (own x.key) c ≡ d → Asc (suc x.key) (rest_of c m) → Asc b (rest_of c (x ∷ m))
      go true e g = simp e (asc_weaken b (suc x.key) (rest_of c m) (omega arith) g)
      go false e g = simp e h

  run_asc : (b c : ℕ) (m : Map ℕ) → Asc b m → Asc b (run_of own c m)
  unfolding run_of Asc
  run_asc b c [] h = tt
  run_asc b c (x ∷ m) h = go (eqb (own x.key) c) refl (run_asc (suc x.key) c m h.1)
    where
      go : (d : Bool) → eqb (own x.key) c ≡ d → Asc (suc x.key) (run_of own c m) → Asc b (run_of own c (x ∷ m))
      go true e g = simp e (h.0, g)
      go false e g = simp e tt

  pub run_part : (P : Row ℕ → Type 0) (c : ℕ) (m : Map ℕ) → Every P m → Every P (run_of own c m)
  unfolding run_of
  run_part P c [] h = tt
  run_part P c (x ∷ m) h = go (eqb (own x.key) c) refl (run_part P c m h.1)
    where
      go : (d : Bool) → eqb (own x.key) c ≡ d → Every P (run_of own c m) → Every P (run_of own c (x ∷ m))
      go true e g = simp e (h.0, g)
      go false e g = simp e tt

  -- what follows a run begins with a smaller case, or has greater cases alone
  Behind : ℕ → Map ℕ → Type 0
  Behind c [] = ⊥
  Behind c (x ∷ m) = own x.key < c

  rest_cut : ((j k : ℕ) → j ≤ k → own j ≤ own k) → (b c : ℕ) (m : Map ℕ) → Asc b m → Behind c (rest_of c m) ⊎ Every (λ x. c < own x.key) (rest_of c m)
  unfolding rest_of Asc Behind
  rest_cut mono b c [] h = inr tt
  rest_cut mono b c (x ∷ m) h = go (tri (own x.key) c) (rest_cut mono (suc x.key) c m h.1)
    where
      go : Tri (own x.key) c → Behind c (rest_of c m) ⊎ Every (λ x. c < own x.key) (rest_of c m) →
          Behind c (rest_of c (x ∷ m)) ⊎ Every (λ x. c < own x.key) (rest_of c (x ∷ m))
      go (below l e f) g = simp f (inl l)
      go (equal l e f) g = simp f g
      go (above l e f) g =
          simp f (inr (l, every_map m (λ y k. let z = mono x.key y.key (omega arith) in omega arith) (asc_every (suc x.key) m h.1)))

  -- the walk
  unfoldable pub grouped : Rules → Map ℕ → Map ℕ → Bool
  grouped rules [] [] = true
  grouped rules [] (x ∷ m) = false
  grouped rules (c ∷ cs) m = good_run rules c.key (run_of own c.key m) && grouped rules cs (rest_of c.key m)

  -- the two conditions, V6 and V7
  abbrev pub apart : (ℕ → Map ℕ → Bool) → Map ℕ → Map ℕ → Bool
  apart tog cs m = all (λ e. has (own e.key) cs) m && all (λ c. tog c.key (keep (λ k. eqb (own k) c.key) m)) cs

  has_below : (k b : ℕ) (cs : Map ℕ) → k < b → Asc b cs → has k cs ≡ false
  has_below k b cs l h = ap is_some (find_below k b cs l h)

  has_other : (k : ℕ) (c : Row ℕ) (cs : Map ℕ) → c.key < k → has k (c ∷ cs) ≡ has k cs
  unfolding find
  has_other k c cs l = simp (ne_eqb k c.key (λ e. omega arith))

  has_own : (k : ℕ) (c : Row ℕ) (cs : Map ℕ) → k ≡ c.key → has k (c ∷ cs) ≡ true
  unfolding find
  has_own k c cs l = simp (eq-eqb k c.key l)

  asc_self : (c : Row ℕ) (cs : Map ℕ) → Asc (suc c.key) cs → Asc c.key (c ∷ cs)
  unfolding Asc
  asc_self c cs h = (omega arith, h)

  head_out : (cs : Map ℕ) (b : ℕ) → Asc b cs → (vs : Map ℕ) → Behind b vs → all (λ e. has (own e.key) cs) vs ≡ false
  unfolding all Behind
  head_out cs b h [] l = absurd l
  head_out cs b h (x ∷ vs) l = rw (has_below (own x.key) b cs l h)

  module _ (tog : ℕ → Map ℕ → Bool) (c : Row ℕ) (cs us vs : Map ℕ) (up : Asc (suc c.key) cs) (mine : Every (λ x. own x.key ≡ c.key) us) where
    -- every case after the first is greater
    greater : Every (λ d. c.key < d.key) cs
    greater = asc_every (suc c.key) cs up

    front_stands : all (λ e. has (own e.key) (c ∷ cs)) us ≡ true
    front_stands = all_tell _ us (every_map us (λ x e. has_own (own x.key) c cs e) mine)

    ahead : Every (λ x. c.key < own x.key) vs → apart tog (c ∷ cs) (us ++ vs) ≡ (tog c.key us && apart tog cs vs)
    unfolding all
    ahead after =
        let s : all (λ e. has (own e.key) (c ∷ cs)) (us ++ vs) ≡ all (λ e. has (own e.key) cs) vs =
        all_append (λ e. has (own e.key) (c ∷ cs)) us vs
        ∙ rw front_stands (all_cong (λ e. has (own e.key) (c ∷ cs)) (λ e. has (own e.key) cs) vs (every_map vs (λ x l. has_other (own x.key) c cs l) after)) in
        let k : keep (λ k. eqb (own k) c.key) (us ++ vs) ≡ us =
        keep_append (λ k. eqb (own k) c.key) us vs
        ∙ rw (keep_every (λ k. eqb (own k) c.key) us (every_map us (λ x e. eq-eqb (own x.key) c.key e) mine), keep_none (λ k. eqb (own k) c.key) vs (every_map vs (λ x l. ne_eqb (own x.key) c.key (λ e. omega arith)) after)) (append-nil us) in
        let o : all (λ d. tog d.key (keep (λ k. eqb (own k) d.key) (us ++ vs))) cs ≡ all (λ d. tog d.key (keep (λ k. eqb (own k) d.key) vs)) cs =
        all_cong _ _ cs (every_map cs (λ d l. ap (tog d.key) (others d l)) greater) in
        rw (s, k, o) (and_swap (all (λ e. has (own e.key) cs) vs) (tog c.key us) (all (λ d. tog d.key (keep (λ k. eqb (own k) d.key) vs)) cs))
      where
        append-nil : (m : Map ℕ) → m ++ [] ≡ m
        append-nil [] = refl
        append-nil (x ∷ m) = ap (λ (l : Map ℕ). x ∷ l) (append-nil m)

        others : (d : Row ℕ) → c.key < d.key → keep (λ k. eqb (own k) d.key) (us ++ vs) ≡ keep (λ k. eqb (own k) d.key) vs
        others d l =
            keep_append (λ k. eqb (own k) d.key) us vs
            ∙ rw (keep_none (λ k. eqb (own k) d.key) us (every_map us (λ x e. ne_eqb (own x.key) d.key (λ f. omega arith)) mine))

    -- a case that doesn't stand
    behind : Behind c.key vs → apart tog (c ∷ cs) (us ++ vs) ≡ (tog c.key us && apart tog cs vs)
    behind lost =
        let s : all (λ e. has (own e.key) (c ∷ cs)) (us ++ vs) ≡ false =
        all_append (λ e. has (own e.key) (c ∷ cs)) us vs ∙ rw (head_out (c ∷ cs) c.key (asc_self c cs up) vs lost) (and-false (all (λ e. has (own e.key) (c ∷ cs)) us)) in
        rw (s, head_out cs c.key (asc_weaken c.key (suc c.key) cs (omega arith) up) vs lost) (sym (and-false (tog c.key us)))

  -- a case that stands is not below the first
  has_above : (k b : ℕ) (cs : Map ℕ) → Asc b cs → has k cs ≡ true → b ≤ k
  has_above k b cs h e = go (tri k b)
    where
      go : Tri k b → b ≤ k
      go (below l _ _) = absurd (false≢true (sym (has_below k b cs l h) ∙ e))
      go (equal l _ _) = omega arith
      go (above l _ _) = omega arith

  module _ (mono : (j k : ℕ) → j ≤ k → own j ≤ own k) where
    -- a case's events are before those of greater cases
    asc_join : (b c : ℕ) (us vs : Map ℕ) → Asc b us → Asc 0 vs → Every (λ x. own x.key ≡ c) us → Every (λ x. c < own x.key) vs → Every (λ x. b ≤ x.key) vs → Asc b (us ++ vs)
    unfolding Asc
    asc_join b c [] [] h g mine after l = tt
    asc_join b c [] (v ∷ vs) h g mine after l = (l.0, g.1)
    asc_join b c (u ∷ us) vs h g mine after l =
        (h.0, asc_join (suc u.key) c us vs h.1 g mine.1 after (every_map vs (λ y k. go y k (tri u.key y.key)) after))
      where
        go : (y : Row ℕ) → c < own y.key → Tri u.key y.key → u.key < y.key
        go y k (below p _ _) = p
        go y k (equal p _ _) = let z = mono y.key u.key (omega arith) in let q = mine.0 in absurd (omega arith)
        go y k (above p _ _) = let z = mono y.key u.key (omega arith) in let q = mine.0 in absurd (omega arith)

    module _ (rules : Rules) where
      -- what the events m of the cases cs have to be
      abbrev pub in_place : Map ℕ → Map ℕ → Bool
      in_place cs m = all rules.event_row m && (ascending m && apart rules.together cs m)

      module _ (c : Row ℕ) (cs m : Map ℕ) (up : Asc (suc c.key) cs) where
        abbrev us : Map ℕ
        us = run_of own c.key m

        abbrev vs : Map ℕ
        vs = rest_of c.key m

        run_on : good_run rules c.key us ≡ true → in_place cs vs ≡ true → in_place (c ∷ cs) m ≡ true
        run_on g w =
            let p = rules.event_row in
            let u = and_right (all p us) (ascending us && rules.together c.key us) g in
            let v = and_right (all p vs) (ascending vs && apart rules.together cs vs) w in
            let s = and_right (ascending vs) (apart rules.together cs vs) v in
            let after : Every (λ x. c.key < own x.key) vs =
            every_map vs (λ x k. has_above (own x.key) (suc c.key) cs up k) (all_told (λ e. has (own e.key) cs) vs (and_left (all (λ e. has (own e.key) cs) vs) _ s)) in
            let order : ascending (us ++ vs) ≡ true =
            asc_tell 0 (us ++ vs) (asc_join 0 c.key us vs (asc_told us (and_left (ascending us) _ u)) (asc_told vs (and_left (ascending vs) _ v)) (run_own c.key m) after (every_map vs (λ x k. omega arith) after)) in
            subst (λ (l : Map ℕ). in_place (c ∷ cs) l ≡ true) (run_rest c.key m)
            (and_tell (all p (us ++ vs)) _ (all_join p us vs (and_left (all p us) _ g) (and_left (all p vs) _ w))
            (and_tell (ascending (us ++ vs)) _ order
            (ahead rules.together c cs us vs up (run_own c.key m) after ∙ and_tell (rules.together c.key us) _ (and_right (ascending us) _ u) s)))

        run_back : in_place (c ∷ cs) m ≡ true → good_run rules c.key us && in_place cs vs ≡ true
        run_back h =
            let p = rules.event_row in
            let a : all p (us ++ vs) ≡ true = rw (run_rest c.key m) (and_left (all p m) _ h) in
            let v = and_right (all p m) (ascending m && apart rules.together (c ∷ cs) m) h in
            let up0 = asc_told m (and_left (ascending m) _ v) in
            let s : apart rules.together (c ∷ cs) (us ++ vs) ≡ true = rw (run_rest c.key m) (and_right (ascending m) _ v) in
            let t = sym (step (rest_cut mono 0 c.key m up0)) ∙ s in
            and_tell (good_run rules c.key us) _
            (and_tell (all p us) _ (all_left p us vs a) (and_tell (ascending us) _ (asc_tell 0 us (run_asc 0 c.key m up0)) (and_left (rules.together c.key us) _ t)))
            (and_tell (all p vs) _ (all_right p us vs a) (and_tell (ascending vs) _ (asc_tell 0 vs (rest_asc 0 c.key m up0)) (and_right (rules.together c.key us) _ t)))
          where
            step : Behind c.key vs ⊎ Every (λ x. c.key < own x.key) vs →
                apart rules.together (c ∷ cs) (us ++ vs) ≡ (rules.together c.key us && apart rules.together cs vs)
            step (inl l) = behind rules.together c cs us vs up (run_own c.key m) l
            step (inr l) = ahead rules.together c cs us vs up (run_own c.key m) l

      left_over : (a b : Bool) → false ≡ a && (b && false)
      left_over true b = sym (and-false b)
      left_over false b = refl

      pub grouped_is : (b : ℕ) (cs m : Map ℕ) → Asc b cs → grouped rules cs m ≡ in_place cs m
      unfolding grouped all find Asc ascending
      grouped_is b [] [] h = refl
      grouped_is b [] (x ∷ m) h = left_over (all rules.event_row (x ∷ m)) (ascending (x ∷ m))
      grouped_is b (c ∷ cs) m h =
          ap (λ (z : Bool). good_run rules c.key (run_of own c.key m) && z) (grouped_is (suc c.key) cs (rest_of c.key m) h.1)
          ∙ same_truth (good_run rules c.key (run_of own c.key m) && in_place cs (rest_of c.key m)) (in_place (c ∷ cs) m)
          (λ k. run_on c cs m h.1 (and_left (good_run rules c.key (run_of own c.key m)) _ k) (and_right (good_run rules c.key (run_of own c.key m)) _ k))
          (run_back c cs m h.1)
