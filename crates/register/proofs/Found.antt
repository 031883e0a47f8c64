-- What a search over the bytes says of the state.
use Prim.Native.Nat.{ℕ, zero, suc, ◌+◌, ◌-◌, ◌/◌, ◌^◌, ◌≤◌, ◌<◌}
use mathlib.Core.Path.{◌≡◌, refl, sym, ap, ap₂, subst, ◌∙◌}
use mathlib.Core.Bool.{Bool, true, false, cond, not, ◌&&◌}
use mathlib.Core.List.{List, [], ◌∷◌, ◌++◌, append-nil}
use native.Mathlib.Omega.{arith}
use lib.Dec.{ltb, eqb}
use lib.ListN.{length}
use lib.Pow.{shr-shr, shr_mono}
use borrow.Author.Tests.{eq-eqb, ne_eqb}
use Rattle.model.specs.Map.{Row, Map, is_some, find, has, keep}
use Rattle.model.specs.Flow.{State}
use Rattle.model.proofs.MapPlace.{AllBelow, find_in, find_out}
use Rattle.register.specs.Layout.{Layout, case_rest, event_rest, case_named, row_in}
use Rattle.register.specs.State.{from, split_by, events_from}
use Rattle.register.specs.Stored.{Laid, Stored, Group, events, rows_of, key_part}
use Rattle.register.specs.Search.{key_at, Rises, Placed, Ranged}
use Rattle.register.proofs.From.{from_cut}
use Rattle.register.proofs.MixedKeys.{by_front}
use Rattle.register.proofs.States.{events_back}
use Rattle.register.proofs.Changes.{start_of}
use Rattle.register.proofs.Places.{keys, keys_rise, key_is, first_is, Apart, Within, apart, within}

-- ---- a key's place

module _ (l : Layout) (lay : Laid l) (g : Group) (reg : List ℕ) (s : State ℕ ℕ) (h : Stored l reg s) (v hi i : ℕ)
    (eh : hi ≡ start_of g s + length (rows_of g s)) (pl : Placed (keys l lay g reg s h) v (start_of g s) hi i) where
  abbrev stand : Bool
  stand = ltb i hi && eqb (keys l lay g reg s h i) v

  -- the test at the place found says whether the key stands
  pub stands_has : stand ≡ has v (rows_of g s)
  stands_has = go stand refl
    where
      go : (b : Bool) → stand ≡ b → stand ≡ has v (rows_of g s)
      go true e =
          let p : Within (rows_of g s) v (i - start_of g s) = within l lay g reg s h v hi i eh pl e in
          e ∙ sym (ap is_some
          (ap₂ (λ (k : ℕ) (m : Map ℕ). find k m) (sym p.is) p.whole ∙ find_in p.us p.row p.vs (subst (λ (k : ℕ). AllBelow k p.us) (sym p.is) p.below)))
      go false e =
          let p : Apart (rows_of g s) v (i - start_of g s) = apart l lay g reg s h v hi i eh pl e in
          e ∙ sym (ap is_some (ap (find v) p.whole ∙ find_out v p.us p.vs p.below p.above))

-- ---- the events of a case

keep_append : (p : ℕ → Bool) (a b : Map ℕ) → keep p (a ++ b) ≡ keep p a ++ keep p b
unfolding keep
keep_append p [] b = refl
keep_append p (x ∷ a) b = go (p x.key) (keep_append p a b)
  where
    go : (t : Bool) → keep p (a ++ b) ≡ keep p a ++ keep p b → cond t (x ∷ keep p (a ++ b)) (keep p (a ++ b)) ≡ cond t (x ∷ keep p a) (keep p a) ++ keep p b
    go true e = ap (λ (m : Map ℕ). x ∷ m) e
    go false e = e

keep-from : (p : ℕ → Bool) (f : ℕ → Row ℕ) (i k : ℕ) → ((j : ℕ) → i ≤ j → j < i + k → p (f j).key ≡ true) → keep p (from f i k) ≡ from f i k
unfolding keep from
keep-from p f i zero h = refl
keep-from p f i (suc k) h = simp (h i (omega arith) (omega arith), keep-from p f (suc i) k (λ j a b. h j (omega arith) (omega arith)))

drop_from : (p : ℕ → Bool) (f : ℕ → Row ℕ) (i k : ℕ) → ((j : ℕ) → i ≤ j → j < i + k → p (f j).key ≡ false) → keep p (from f i k) ≡ []
unfolding keep from
drop_from p f i zero h = refl
drop_from p f i (suc k) h = simp (h i (omega arith) (omega arith), drop_from p f (suc i) k (λ j a b. h j (omega arith) (omega arith)))

module _ (l : Layout) (lay : Laid l) (reg : List ℕ) (s : State ℕ ℕ) (h : Stored l reg s) where
  abbrev row : ℕ → Row ℕ
  row j = split_by l.spare (event_rest l) (row_in l reg j)

  abbrev lo : ℕ
  lo = length s.cases

  abbrev hi : ℕ
  hi = length s.cases + length s.events

  -- the first bits of an event's row are its case's key: none of them is spare
  pub case_at : (j : ℕ) → key_at l.bytes l.case_key reg j ≡ case_named l (row j).key
  case_at j =
      let e : case_rest l ≡ event_rest l + (l.event_key - l.case_key) = omega (arith, lay.case_first, lay.in_row) in
      let q : ℕ = row_in l reg j / 2 ^ event_rest l in
      key_is l reg l.case_key j ∙ ap (λ (k : ℕ). row_in l reg j / 2 ^ k) e ∙ sym (shr-shr (row_in l reg j) (event_rest l) (l.event_key - l.case_key))
      ∙ sym (by_front (l.spare q) (l.event_key - l.case_key) q (lay.spare_few q))

  -- the cases of the events do not fall
  pub cases_rise : Rises (key_at l.bytes l.case_key reg) lo hi
  cases_rise p q a b c =
      let own : (j : ℕ) → keys l lay events reg s h j ≡ (row j).key = λ j. ap (key_part events l) (first_is events l reg j) in
      let k : (row p).key ≤ (row q).key = let z = keys_rise l lay events reg s h p q a b c in let x = own p in let y = own q in omega arith in
      rw (case_at p, case_at q) (shr_mono (l.event_key - l.case_key) k)

  module _ (v a e : ℕ) (r : Ranged (key_at l.bytes l.case_key reg) v lo hi a e) where
    -- the events, cut where the range begins and where it ends
    pub events_cut : s.events ≡ from row lo (a - lo) ++ (from row a (e - a) ++ from row e (hi - e))
    events_cut =
        let n : hi - lo ≡ length s.events = omega arith in
        sym (events_back l lay reg s h) ∙ ap (from row lo) (sym n) ∙ from_cut row lo a hi r.low (omega (arith, r.mid, r.high))
        ∙ ap (λ (m : Map ℕ). from row lo (a - lo) ++ m) (from_cut row a e hi r.mid r.high)

    -- the rows of the three parts that pass a test
    keep_cut : (p : ℕ → Bool) → keep p s.events ≡ keep p (from row lo (a - lo)) ++ (keep p (from row a (e - a)) ++ keep p (from row e (hi - e)))
    keep_cut p =
        ap (keep p) events_cut ∙ keep_append p (from row lo (a - lo)) (from row a (e - a) ++ from row e (hi - e))
        ∙ ap (λ (m : Map ℕ). keep p (from row lo (a - lo)) ++ m) (keep_append p (from row a (e - a)) (from row e (hi - e)))

    abbrev own : ℕ → Bool
    own k = eqb (case_named l k) v

    before : (j : ℕ) → lo ≤ j → j < lo + (a - lo) → own (row j).key ≡ false
    before j x y =
        ne_eqb (case_named l (row j).key) v (λ z. let k = r.before cases_rise j x (omega (arith, r.low)) in omega (arith, case_at j))

    inside : (j : ℕ) → a ≤ j → j < a + (e - a) → own (row j).key ≡ true
    inside j x y = eq-eqb (case_named l (row j).key) v (sym (case_at j) ∙ r.inside cases_rise j x (omega (arith, r.mid)))

    after : (j : ℕ) → e ≤ j → j < e + (hi - e) → own (row j).key ≡ false
    after j x y =
        ne_eqb (case_named l (row j).key) v (λ z. let k = r.after cases_rise j x (omega (arith, r.high)) in omega (arith, case_at j))

    -- the range found is the case's events
    pub range_events : keep (λ k. eqb (case_named l k) v) s.events ≡ events_from l reg a (e - a)
    range_events =
        keep_cut own
        ∙ ap₂ (λ (x y : Map ℕ). x ++ (keep own (from row a (e - a)) ++ y)) (drop_from own row lo (a - lo) before) (drop_from own row e (hi - e) after)
        ∙ append-nil (keep own (from row a (e - a)))
        ∙ keep-from own row a (e - a) inside

    -- and what stands around it the others'
    pub range_others : keep (λ k. not (eqb (case_named l k) v)) s.events ≡ from row lo (a - lo) ++ from row e (hi - e)
    range_others =
        let other : ℕ → Bool = λ k. not (own k) in
        keep_cut other
        ∙ ap (λ (x : Map ℕ). keep other (from row lo (a - lo)) ++ (x ++ keep other (from row e (hi - e)))) (drop_from other row a (e - a) (λ j x y. ap not (inside j x y)))
        ∙ ap₂ (λ (x y : Map ℕ). x ++ y) (keep-from other row lo (a - lo) (λ j x y. ap not (before j x y))) (keep-from other row e (hi - e) (λ j x y. ap not (after j x y)))
