-- The place of a key among ascending rows: whether it stands there, and how many keys are smaller.
use Prim.Native.Nat.{ℕ, zero, suc, ◌+◌, ◌-◌, ◌*◌, ◌≤◌, ◌<◌}
use mathlib.Core.Path.{◌≡◌, refl, sym, ap, ◌∙◌, subst}
use mathlib.Core.Bool.{Bool, true, false, cond, ◌&&◌}
use mathlib.Core.List.{List, [], ◌∷◌, ◌++◌}
use mathlib.Core.Option.{some}
use native.Mathlib.Omega.{arith}
use lib.Dec.{eqb, ltb}
use lib.ListN.{length, length-append}
use borrow.Author.Tests.{lt-ltb, le-ltb}
use Rattle.laws.proofs.Order.{Tri, below, equal, above, tri}
use Rattle.laws.proofs.Every.{Every, every_map}
use Rattle.model.specs.Map.{Row, Map, Asc, find, has, is_some, keep}
use Rattle.model.proofs.MapPlace.{AllBelow, find_in, find_out}
use Rattle.register.specs.Layout.{case_rest, row_in, row_at, cases_held}
use Rattle.register.specs.State.{from, split, state_of}
use Rattle.register.specs.Search.{key_at, probe_key, Rises, Placed}
use Rattle.register.specs.Sound.{ascending}
use Rattle.register.proofs.From.{from-length, from_cut}
use Rattle.register.proofs.Walks.{from_next, from_none, from_every}
use Rattle.register.proofs.Ascending.{asc_told, asc_part}
use Rattle.home_care.specs.Row.{home_care, key_bits}
use Rattle.soundness.specs.Finding.{Found}
use Rattle.soundness.proofs.CaseRuns.{keep_append, keep_every, keep_none}

module _ (rows : ℕ → Row ℕ) where
  low : (b i k : ℕ) → Asc b (from rows i k) → (q : ℕ) → i ≤ q → q < i + k → b ≤ (rows q).key
  unfolding from Asc
  low b i zero h q x y = absurd (omega arith)
  low b i (suc k) h q x y = go (tri i q) (low (suc (rows i).key) (suc i) k h.1 q)
    where
      go : Tri i q → (suc i ≤ q → q < suc i + k → suc (rows i).key ≤ (rows q).key) → b ≤ (rows q).key
      go (below l _ _) ih = let z = ih l (omega arith) in omega (arith, h.0)
      go (equal l _ _) ih = rw (← l) h.0
      go (above l _ _) ih = absurd (omega arith)

  pub keys_rise : (b i k : ℕ) → Asc b (from rows i k) → (p q : ℕ) → i ≤ p → p < q → q < i + k → (rows p).key < (rows q).key
  unfolding from Asc
  keys_rise b i zero h p q x y z = absurd (omega arith)
  keys_rise b i (suc k) h p q x y z = go (tri i p) (keys_rise (suc (rows i).key) (suc i) k h.1 p q)
    where
      go : Tri i p → (suc i ≤ p → p < q → q < suc i + k → (rows p).key < (rows q).key) → (rows p).key < (rows q).key
      go (below l _ _) ih = ih l y (omega arith)
      go (equal l _ _) ih = subst (λ (j : ℕ). (rows j).key < (rows q).key) l (low (suc (rows i).key) (suc i) k h.1 q (omega arith) (omega arith))
      go (above l _ _) ih = absurd (omega arith)

  below_every : (v : ℕ) (m : Map ℕ) → Every (λ x. x.key < v) m → AllBelow v m
  below_every v [] h = tt
  below_every v (x ∷ m) h = (h.0, below_every v m h.1)

  -- i rows have smaller keys, and the others none
  module _ (v n i : ℕ) (up : Asc 0 (from rows 0 n)) (within : i ≤ n) (under : (k : ℕ) → k < i → (rows k).key < v) (over : (k : ℕ) → i ≤ k → k < n → v ≤ (rows k).key) where
    abbrev us : Map ℕ
    us = from rows 0 i

    abbrev vs : Map ℕ
    vs = from rows i (n - i)

    cut : from rows 0 n ≡ us ++ vs
    cut =
        let e : n ≡ n - 0 = omega arith in
        let d : i - 0 ≡ i = omega arith in
        ap (from rows 0) e ∙ from_cut rows 0 i n (omega arith) within ∙ ap (λ (k : ℕ). from rows 0 k ++ vs) d

    smaller : Every (λ x. x.key < v) us
    smaller = from_every rows (λ x. x.key < v) 0 i (λ j a b. under j (omega arith))

    others : Every (λ x. v ≤ x.key) vs
    others = from_every rows (λ x. v ≤ x.key) i (n - i) (λ j a b. over j a (omega arith))

    pub count_smaller : length (keep (λ k. ltb k v) (from rows 0 n)) ≡ i
    count_smaller =
        ap (λ (m : Map ℕ). length (keep (λ k. ltb k v) m)) cut
        ∙ ap length (keep_append (λ k. ltb k v) us vs)
        ∙ rw (keep_every (λ k. ltb k v) us (every_map us (λ x l. lt-ltb x.key v l) smaller), keep_none (λ k. ltb k v) vs (every_map vs (λ x l. le-ltb x.key v l) others))
        (length-append us [] ∙ rw (from-length rows 0 i) (omega arith))

    here : i < n → (rows i).key ≡ v → has v (from rows 0 n) ≡ true
    here h e =
        ap (has v) (cut ∙ ap (λ (m : Map ℕ). us ++ m) (from_next rows i n h))
        ∙ ap is_some (subst (λ (z : ℕ). find z (us ++ rows i ∷ from rows (i + 1) (n - (i + 1))) ≡ some (rows i).val) e
        (find_in us (rows i) (from rows (i + 1) (n - (i + 1))) (below_every (rows i).key us (rw e smaller))))

    away : Asc (suc v) vs → has v (from rows 0 n) ≡ false
    away a = ap (has v) cut ∙ ap is_some (find_out v us vs (below_every v us smaller) a)

    rest_up : i < n → v < (rows i).key → Asc (suc v) vs
    unfolding Asc
    rest_up h l =
        let p : Asc 0 (from rows i (n - i)) = asc_part 0 i n n (omega arith) within (omega arith) rows (let e : n ≡ n - 0 = omega arith in subst (λ (k : ℕ). Asc 0 (from rows 0 k)) e up) in
        subst (λ (m : Map ℕ). Asc (suc v) m) (sym (from_next rows i n h)) (l, (subst (λ (m : Map ℕ). Asc 0 m) (from_next rows i n h) p).1)

    pub stands_is : has v (from rows 0 n) ≡ ltb i n && eqb (rows i).key v
    unfolding Asc
    stands_is = go (tri i n)
      where
        near : i < n → Tri (rows i).key v → has v (from rows 0 n) ≡ eqb (rows i).key v
        near h (below l _ e) = let z = over i (omega arith) h in absurd (omega arith)
        near h (equal l _ e) = here h l ∙ sym e
        near h (above l _ e) = away (rest_up h l) ∙ sym e

        go : Tri i n → has v (from rows 0 n) ≡ ltb i n && eqb (rows i).key v
        go (below l e _) = rw e (near l (tri (rows i).key v))
        go (equal l e _) = rw e (away (rw (from_none rows i n (omega arith)) tt))
        go (above l e _) = absurd (omega arith)

-- what finding answers, by the place and whether the key stands there
module _ (w : ℕ) (reg probe : List ℕ) (cases i : ℕ) (stand : Bool) (held : cases ≡ cases_held reg) (p : Placed (key_at w key_bits reg) (probe_key w key_bits probe + 0) 0 cases i)
    (told : stand ≡ ltb i cases && eqb (key_at w key_bits reg i) (probe_key w key_bits probe)) (up : ascending (state_of (home_care w) reg).cases ≡ true) where
  abbrev case_row : ℕ → Row ℕ
  case_row j = split (case_rest (home_care w)) (row_in (home_care w) reg j)

  abbrev key : ℕ
  key = probe_key w key_bits probe

  abbrev answer : Found
  answer =
      cond (has key (state_of (home_care w) reg).cases) (record { answer = 0; place = row_at (home_care w) (length (keep (λ k. ltb k key) (state_of (home_care w) reg).cases)) })
      (record { answer = 30; place = 0 })

  row_key : (k : ℕ) → key_at w key_bits reg k ≡ (case_row k).key
  unfolding key_at row_in
  row_key k = refl

  asc : Asc 0 (from case_row 0 cases)
  asc = rw held (asc_told (state_of (home_care w) reg).cases up)

  rises : Rises (key_at w key_bits reg) 0 cases
  rises a b x y z =
      let q : (case_row a).key < (case_row b).key = keys_rise case_row 0 0 cases asc a b x y (omega arith) in
      rw (row_key a, row_key b) (omega arith)

  under : (k : ℕ) → k < i → (case_row k).key < key
  under k h = let q = p.under rises k (omega arith) h in subst (λ (z : ℕ). z < key) (row_key k) (omega arith)

  over : (k : ℕ) → i ≤ k → k < cases → key ≤ (case_row k).key
  over k h g = let q = p.over rises k h g in subst (λ (z : ℕ). key ≤ z) (row_key k) (omega arith)

  stood : has key (state_of (home_care w) reg).cases ≡ stand
  stood =
      rw (← held) (stands_is case_row key cases i asc p.high under over ∙ sym (told ∙ ap (λ (k : ℕ). ltb i cases && eqb k key) (row_key i)))

  counted : length (keep (λ k. ltb k key) (state_of (home_care w) reg).cases) ≡ i
  counted = rw (← held) (count_smaller case_row key cases i asc p.high under over)

  pub found_at : stand ≡ true → record { answer = 0; place = 4 + w * i } ≡ answer
  found_at e = rw (stood ∙ e, counted)

  pub found_not : stand ≡ false → record { answer = 30; place = 0 } ≡ answer
  found_not e = rw (stood ∙ e)
