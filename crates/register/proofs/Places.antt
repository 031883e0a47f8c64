-- The rows of a group at their places in the bytes, and the group cut where a search found a key's place.
use Prim.Native.Nat.{ℕ, zero, suc, ◌+◌, ◌-◌, ◌*◌, ◌/◌, ◌^◌, ◌≤◌, ◌<◌}
use mathlib.Core.Path.{◌≡◌, refl, sym, ap, ap₂, subst, ◌∙◌}
use mathlib.Core.Bool.{true, false, ◌&&◌}
use mathlib.Core.List.{List, [], ◌∷◌, ◌++◌}
use mathlib.Core.Logic.{◌↔◌}
use native.Mathlib.Omega.{arith}
use lib.Dec.{ltb, eqb}
use lib.ListN.{length, take, drop, get_or, take-append-drop, length-drop}
use lib.Pow.{shr-shr}
use lib.Seq.{split_at, length-take-le, get_or-take, get_or-drop}
use borrow.Author.Tests.{ltb-true, eqb-true, eqb-false, lt-ltb, eq-eqb, ne_eqb}
use Rattle.laws.proofs.Truth.{and_left, and_right}
use Rattle.laws.proofs.Order.{Tri, tri}
use Rattle.laws.proofs.Order.Tri.{below, equal, above}
use Rattle.model.specs.Map.{Row, Map, Asc, del}
use Rattle.model.specs.Flow.{State}
use Rattle.model.proofs.MapPlace.{AllBelow, all_below, cut_asc, del_out}
use Rattle.register.specs.Layout.{Layout, row_in}
use Rattle.register.specs.Stored.{Laid, Fits, Stored, Group, cases, events, rows_of, key_bits_of, rest_of, key_part, split_of}
use Rattle.register.specs.Search.{key_at, Rises, Placed}
use Rattle.register.proofs.From.{from_at}
use Rattle.register.proofs.MixedKeys.{spare_of, group_bits, few, key_below, key_same, firsts_rise}
use Rattle.register.proofs.States.{cases_back, events_back}
use Rattle.register.proofs.Changes.{start_of}

below_at : (k : ℕ) (d : Row ℕ) (m : Map ℕ) (p : ℕ) → AllBelow k m → p < length m → (get_or m p d).key < k
below_at k d [] p b h = absurd (omega arith)
below_at k d (x ∷ m) zero b h = b.0
below_at k d (x ∷ m) (suc p) b h = below_at k d m p b.1 (omega arith)

-- later rows have larger keys
asc_less : (d : Row ℕ) (m : Map ℕ) (p q : ℕ) → Asc 0 m → p < q → q < length m → (get_or m p d).key < (get_or m q d).key
asc_less d m p q h l g =
    let x : Row ℕ = get_or m q d in
    let c = cut_asc 0 (take q m) x (drop (suc q) m) (rw (split_at m q d g) at h) in
    let n : length (take q m) ≡ q = length-take-le q m (omega arith) in
    rw (get_or-take q m p d l) at (below_at x.key d (take q m) p c.1 (omega arith))

pub key_is : (l : Layout) (reg : List ℕ) (k i : ℕ) → key_at l.bytes k reg i ≡ row_in l reg i / 2 ^ (8 * l.bytes - k)
unfolding key_at row_in
key_is l reg k i = refl

pub first_is : (g : Group) (l : Layout) (reg : List ℕ) (i : ℕ) → key_at l.bytes (key_bits_of g l) reg i ≡ row_in l reg i / 2 ^ rest_of g l
first_is cases l reg i = key_is l reg l.case_key i
first_is events l reg i = key_is l reg l.event_key i

-- a place found by the numbers f is the place by the numbers g, where below by the one is below by the other
module _ (f g : ℕ → ℕ) (v w lo hi r : ℕ) (alike : (k : ℕ) → (g k < w) ↔ (f k < v)) (rise : Rises f lo hi) (pl : Placed f v lo hi r) where
  pub under_by : (k : ℕ) → lo ≤ k → k < r → g k < w
  under_by k a b = (alike k).1 (pl.under rise k a b)

  pub over_by : (k : ℕ) → r ≤ k → k < hi → w ≤ g k
  over_by k a b = go (tri (g k) w)
    where
      go : Tri (g k) w → w ≤ g k
      go (below x _ _) = let u = (alike k).0 x in let o = pl.over rise k a b in absurd (omega arith)
      go (equal x _ _) = omega arith
      go (above x _ _) = omega arith

module _ (l : Layout) (lay : Laid l) (g : Group) (reg : List ℕ) (s : State ℕ ℕ) (h : Stored l reg s) where
  -- the first bits of a row, and its key
  abbrev pub firsts : ℕ → ℕ
  firsts = key_at l.bytes (key_bits_of g l) reg

  abbrev pub keys : ℕ → ℕ
  keys i = key_part g l (firsts i)

  pub row_at : (p : ℕ) (d : Row ℕ) → p < length (rows_of g s) → split_of g l (row_in l reg (start_of g s + p)) ≡ get_or (rows_of g s) p d
  row_at = go g
    where
      go : (g : Group) (p : ℕ) (d : Row ℕ) → p < length (rows_of g s) → split_of g l (row_in l reg (start_of g s + p)) ≡ get_or (rows_of g s) p d
      go cases p d i =
          sym (from_at (λ j. split_of cases l (row_in l reg j)) 0 (length s.cases) p d i)
          ∙ ap (λ (m : Map ℕ). get_or m p d) (cases_back l lay reg s h)
      go events p d i =
          sym (from_at (λ j. split_of events l (row_in l reg j)) (length s.cases) (length s.events) p d i)
          ∙ ap (λ (m : Map ℕ). get_or m p d) (events_back l lay reg s h)

  pub key_at_lem : (p : ℕ) (d : Row ℕ) → p < length (rows_of g s) → keys (start_of g s + p) ≡ (get_or (rows_of g s) p d).key
  key_at_lem p d i =
      ap (key_part g l) (first_is g l reg (start_of g s + p)) ∙ ap (λ (r : Row ℕ). r.key) (row_at p d i)

  pub good_rows : Asc 0 (rows_of g s)
  good_rows = go g
    where
      go : (g : Group) → Asc 0 (rows_of g s)
      go cases = h.good.0
      go events = h.good.1

  pub fits_rows : Fits g l (rows_of g s)
  fits_rows = go g
    where
      go : (g : Group) → Fits g l (rows_of g s)
      go cases = h.cases_fit
      go events = h.events_fit

  -- the keys rise, as the search supposes
  pub keys_climb : (p q : ℕ) → start_of g s ≤ p → p < q → q < start_of g s + length (rows_of g s) → keys p < keys q
  keys_climb p q a b c =
      let d : Row ℕ = record { key = 0; val = 0 } in
      let u : ℕ = p - start_of g s in
      let v : ℕ = q - start_of g s in
      let eu : start_of g s + (p - start_of g s) ≡ p = omega arith in
      let ev : start_of g s + (q - start_of g s) ≡ q = omega arith in
      let ku : keys p ≡ (get_or (rows_of g s) u d).key = ap keys (sym eu) ∙ key_at_lem u d (omega arith) in
      let kv : keys q ≡ (get_or (rows_of g s) v d).key = ap keys (sym ev) ∙ key_at_lem v d (omega arith) in
      let k : (get_or (rows_of g s) u d).key < (get_or (rows_of g s) v d).key = asc_less d (rows_of g s) u v good_rows (omega arith) (omega arith) in
      omega arith

  pub keys_rise : Rises keys (start_of g s) (start_of g s + length (rows_of g s))
  keys_rise p q a b c = let k = keys_climb p q a b c in omega arith

  -- ---- by as many bits as a probe's key has
  module _ (p : ℕ) where
    abbrev spared : ℕ
    spared = spare_of g l p

    abbrev bits : ℕ → ℕ
    bits = key_at l.bytes (key_bits_of g l - spared) reg

    pub bits_at : (i : ℕ) → bits i ≡ firsts i / 2 ^ spared
    bits_at i =
        let e : 8 * l.bytes - (key_bits_of g l - spared) ≡ rest_of g l + spared = omega (arith, few g lay p, group_bits g lay) in
        key_is l reg (key_bits_of g l - spared) i ∙ ap (λ (k : ℕ). row_in l reg i / 2 ^ k) e
        ∙ sym (shr-shr (row_in l reg i) (rest_of g l) spared) ∙ ap (λ (q : ℕ). q / 2 ^ spared) (sym (first_is g l reg i))

    -- a place found by these bits is the place of the key
    pub bits_placed : (hi i : ℕ) → hi ≡ start_of g s + length (rows_of g s) →
        Placed bits (p / 2 ^ spared) (start_of g s) hi i → Placed keys (key_part g l p) (start_of g s) hi i
    bits_placed hi i eh pl =
        record {
          low = pl.low;
          high = pl.high;
          under = λ r. under_by bits keys (p / 2 ^ spared) (key_part g l p) (start_of g s) hi i alike rise pl;
          over = λ r. over_by bits keys (p / 2 ^ spared) (key_part g l p) (start_of g s) hi i alike rise pl;
        }
      where
        alike : (k : ℕ) → (keys k < key_part g l p) ↔ (bits k < p / 2 ^ spared)
        alike k =
            let b = key_below g l lay p (firsts k) in
            (λ h. rw (bits_at k) (b.0 h), λ h. b.1 (rw (bits_at k) at h))

        rise : Rises bits (start_of g s) hi
        rise a b x y z =
            rw (bits_at a, bits_at b) (firsts_rise g l lay (firsts a) (firsts b) (keys_climb a b x y (rw eh at z)) spared)

    -- and the row there has them exactly where it has the key
    pub bits_same : (i : ℕ) → eqb (bits i) (p / 2 ^ spared) ≡ eqb (keys i) (key_part g l p)
    bits_same i = ap (λ (k : ℕ). eqb k (p / 2 ^ spared)) (bits_at i) ∙ go (tri (keys i) (key_part g l p))
      where
        go : Tri (keys i) (key_part g l p) → eqb (firsts i / 2 ^ spared) (p / 2 ^ spared) ≡ eqb (keys i) (key_part g l p)
        go (below x _ f) = ne_eqb _ _ (λ e. let v = (key_same g l lay p (firsts i)).1 e in omega arith) ∙ sym f
        go (equal x _ f) = eq-eqb _ _ ((key_same g l lay p (firsts i)).0 x) ∙ sym f
        go (above x _ f) = ne_eqb _ _ (λ e. let v = (key_same g l lay p (firsts i)).1 e in omega arith) ∙ sym f

-- a map in which v is no key, and c rows have smaller keys
pub record Apart (m : Map ℕ) (v c : ℕ) : Type 0 where
  pub us : Map ℕ
  pub vs : Map ℕ
  pub whole : m ≡ us ++ vs
  pub count : length us ≡ c
  pub below : AllBelow v us
  pub above : Asc (suc v) vs

-- a map in which v is the key of the row after c rows
pub record Within (m : Map ℕ) (v c : ℕ) : Type 0 where
  pub us : Map ℕ
  pub row : Row ℕ
  pub vs : Map ℕ
  pub whole : m ≡ us ++ row ∷ vs
  pub count : length us ≡ c
  pub below : AllBelow v us
  pub is : row.key ≡ v
  pub above : Asc (suc row.key) vs

-- what is left without that row
pub within_out : {m : Map ℕ} {v c : ℕ} (p : Within m v c) → del v m ≡ p.us ++ p.vs
within_out p =
    ap₂ (λ (k : ℕ) (x : Map ℕ). del k x) (sym p.is) p.whole
    ∙ del_out p.us p.row p.vs (subst (λ (k : ℕ). AllBelow k p.us) (sym p.is) p.below) p.above

module _ (l : Layout) (lay : Laid l) (g : Group) (reg : List ℕ) (s : State ℕ ℕ) (h : Stored l reg s) (v hi i : ℕ)
    (eh : hi ≡ start_of g s + length (rows_of g s)) (pl : Placed (keys l lay g reg s h) v (start_of g s) hi i) where
  abbrev none : Row ℕ
  none = record { key = 0; val = 0 }

  abbrev m : Map ℕ
  m = rows_of g s

  abbrev c : ℕ
  c = i - start_of g s

  rise : Rises (keys l lay g reg s h) (start_of g s) hi
  rise = rw eh (keys_rise l lay g reg s h)

  -- a place of the group, from the register's front
  key_of : (p : ℕ) → p < length m → keys l lay g reg s h (start_of g s + p) ≡ (get_or m p none).key
  key_of p q = key_at_lem l lay g reg s h p none q

  cut_length : length (take c m) ≡ c
  cut_length = length-take-le c m (omega (arith, pl.high))

  cut_below : AllBelow v (take c m)
  cut_below =
      all_below v none (take c m) (λ p q.
      let n : p < c = omega (arith, cut_length) in
      let k : keys l lay g reg s h (start_of g s + p) ≡ (get_or m p none).key = key_of p (omega (arith, pl.high)) in
      let b : keys l lay g reg s h (start_of g s + p) < v = pl.under rise (start_of g s + p) (omega arith) (omega (arith, pl.low)) in
      rw (get_or-take c m p none n) (omega arith))

  here : c < length m → keys l lay g reg s h i ≡ (get_or m c none).key
  here q = let e : i ≡ start_of g s + c = omega (arith, pl.low) in ap (keys l lay g reg s h) e ∙ key_of c q

  above_cut : (i < hi → keys l lay g reg s h i ≡ v → ⊥) → (ws : Map ℕ) → drop c m ≡ ws → Asc (suc v) ws
  unfolding Asc
  above_cut o [] f = tt
  above_cut o (x ∷ ws) f =
      let n : length m - c ≡ suc (length ws) = sym (length-drop c m) ∙ ap length f in
      let q : i < hi = omega (arith, pl.low, pl.high) in
      let z : c + 0 ≡ c = omega arith in
      let a : x ≡ get_or m c none = sym (ap (λ (y : Map ℕ). get_or y 0 none) f) ∙ get_or-drop c m 0 none ∙ ap (λ (j : ℕ). get_or m j none) z in
      let k : keys l lay g reg s h i ≡ x.key = here (omega arith) ∙ ap (λ (r : Row ℕ). r.key) (sym a) in
      let b : v ≤ keys l lay g reg s h i = pl.over rise i (omega arith) q in
      let d : keys l lay g reg s h i ≡ v → ⊥ = o q in
      let w : m ≡ take c m ++ x ∷ ws = sym (take-append-drop c m) ∙ ap (λ (y : Map ℕ). take c m ++ y) f in
      (omega arith, (cut_asc 0 (take c m) x ws (subst (Asc 0) w (good_rows l lay g reg s h))).2)

  pub apart : ltb i hi && eqb (keys l lay g reg s h i) v ≡ false → Apart m v c
  apart e =
      record {
        us = take c m;
        vs = drop c m;
        whole = sym (take-append-drop c m);
        count = cut_length;
        below = cut_below;
        above = above_cut other (drop c m) refl;
      }
    where
      other : i < hi → keys l lay g reg s h i ≡ v → ⊥
      other q = eqb-false (keys l lay g reg s h i) v (rw (lt-ltb i hi q) at e)

  pub within : ltb i hi && eqb (keys l lay g reg s h i) v ≡ true → Within m v c
  within e =
      let q : i < hi = ltb-true i hi (and_left (ltb i hi) (eqb (keys l lay g reg s h i) v) e) in
      let k : keys l lay g reg s h i ≡ v = eqb-true (keys l lay g reg s h i) v (and_right (ltb i hi) (eqb (keys l lay g reg s h i) v) e) in
      let n : c < length m = omega (arith, pl.low) in
      let w : m ≡ take c m ++ get_or m c none ∷ drop (suc c) m = split_at m c none n in
      record {
        us = take c m;
        row = get_or m c none;
        vs = drop (suc c) m;
        whole = w;
        count = cut_length;
        below = cut_below;
        is = sym (here n) ∙ k;
        above = (cut_asc 0 (take c m) (get_or m c none) (drop (suc c) m) (subst (Asc 0) w (good_rows l lay g reg s h))).2;
      }
