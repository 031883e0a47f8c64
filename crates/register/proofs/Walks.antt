-- A walk over rows, from one to the next: the rest gives the same as the whole.
use Prim.Native.Nat.{ℕ, zero, suc, ◌+◌, ◌-◌, ◌*◌, ◌/◌, ◌^◌, ◌≤◌, ◌<◌}
use mathlib.Core.Path.{◌≡◌, refl, sym, ap, ap₂, ◌∙◌}
use mathlib.Core.Bool.{Bool, true, false, ◌&&◌}
use mathlib.Core.List.{List, [], ◌∷◌}
use native.Mathlib.Numerals.{add-one}
use native.Mathlib.Omega.{arith}
use lib.Dec.{ltb}
use lib.ListN.{take, drop}
use borrow.Author.Tests.{ltb-true, lt-ltb}
use Rattle.laws.specs.Lists.{all}
use Rattle.laws.proofs.Order.{Tri, below, equal, above, tri}
use Rattle.laws.proofs.Truth.{and_left, and_right}
use Rattle.laws.proofs.Every.{Every, every_map, all_told, all_tell, same_truth, and_tell}
use Rattle.model.specs.Map.{Row, Map}
use Rattle.rows.specs.Packing.{num}
use Rattle.register.specs.Layout.{Layout, row_in}
use Rattle.register.specs.State.{from, split}
use Rattle.register.specs.Search.{key_at, probe_key}
use Rattle.register.specs.Sound.{ascending}

module _ {A : Type 0} (f : ℕ → A) where
  pub from_next : (i hi : ℕ) → i < hi → from f i (hi - i) ≡ f i ∷ from f (i + 1) (hi - (i + 1))
  unfolding from
  from_next i hi h =
      let e : hi - i ≡ suc (hi - (i + 1)) = omega arith in
      ap (from f i) e ∙ rw add-one

  pub from_none : (i hi : ℕ) → hi ≤ i → from f i (hi - i) ≡ []
  unfolding from
  from_none i hi h = let e : hi - i ≡ 0 = omega arith in ap (from f i) e

  -- what holds of each row of a walk
  pub from_every : (P : A → Type 0) (i k : ℕ) → ((j : ℕ) → i ≤ j → j < i + k → P (f j)) → Every P (from f i k)
  unfolding from
  from_every P i zero h = tt
  from_every P i (suc k) h = (h i (omega arith) (omega arith), from_every P (suc i) k (λ j a b. h j (omega arith) (omega arith)))

  -- ---- a test of each row
  module _ (p : A → Bool) (target good : Bool) (i hi : ℕ) (inv : target ≡ all p (from f i (hi - i))) where
    pub row_good : i < hi → good ≡ p (f i) → good ≡ true → target ≡ all p (from f (i + 1) (hi - (i + 1)))
    unfolding all
    row_good h e g = inv ∙ ap (all p) (from_next i hi h) ∙ rw (sym e ∙ g)

    pub row_bad : i < hi → good ≡ p (f i) → good ≡ false → false ≡ target
    unfolding all
    row_bad h e g = sym (inv ∙ ap (all p) (from_next i hi h) ∙ rw (sym e ∙ g))

    pub rows_done : hi ≤ i → true ≡ target
    unfolding all
    rows_done h = sym (inv ∙ ap (all p) (from_none i hi h))

-- ---- ascending keys: neighbours suffice

pub climb : (r s : Row ℕ) (m : Map ℕ) → ascending (r ∷ s ∷ m) ≡ (ltb r.key s.key && ascending (s ∷ m))
unfolding ascending all
climb r s m =
    same_truth (ascending (r ∷ s ∷ m)) (ltb r.key s.key && ascending (s ∷ m))
    (λ h. and_tell (ltb r.key s.key) _ (and_left (ltb r.key s.key) _ (and_left (all (λ t. ltb r.key t.key) (s ∷ m)) _ h)) (and_right (all (λ t. ltb r.key t.key) (s ∷ m)) _ h))
    (λ h.
    let a = and_left (ltb r.key s.key) _ h in
    let b = and_right (ltb r.key s.key) _ h in
    let l : r.key < s.key = ltb-true r.key s.key a in
    let u = all_told (λ t. ltb s.key t.key) m (and_left (all (λ t. ltb s.key t.key) m) _ b) in
    and_tell (all (λ t. ltb r.key t.key) (s ∷ m)) _
    (and_tell (ltb r.key s.key) _ a (all_tell (λ t. ltb r.key t.key) m (every_map m (λ t e. let k : s.key < t.key = ltb-true s.key t.key e in lt-ltb r.key t.key (omega arith)) u))) b)

module _ (l : Layout) (w kbits : ℕ) (reg : List ℕ) (e : l.bytes ≡ w) where
  abbrev rows : ℕ → Row ℕ
  rows j = split (8 * w - kbits) (row_in l reg j)

  -- keys as the code compares them
  pub key_here : (k : ℕ) → key_at w kbits reg k ≡ (rows k).key
  unfolding key_at row_in
  key_here k = ap (λ (v : ℕ). num (take v (drop (4 + v * k) reg)) / 2 ^ (8 * w - kbits)) (sym e)

  pub key_there : (k start : ℕ) → start ≡ 4 + w * k → probe_key w kbits (take (start + w - start) (drop start reg)) ≡ (rows k).key
  unfolding probe_key key_at
  key_there k start h =
      let q : start + w - start ≡ w = omega arith in
      ap (λ (v : ℕ). num (take v (drop start reg)) / 2 ^ (8 * w - kbits)) q ∙ ap (λ (v : ℕ). num (take w (drop v reg)) / 2 ^ (8 * w - kbits)) h ∙ key_here k

  module _ (target good : Bool) (k hi : ℕ) (inv : target ≡ ascending (from rows k (hi - k))) where
    two : k + 1 < hi → target ≡ (ltb (rows k).key (rows (k + 1)).key && ascending (from rows (k + 1) (hi - (k + 1))))
    two h =
        let n = from_next rows (k + 1) hi h in
        inv ∙ ap ascending (from_next rows k hi (omega arith) ∙ ap (λ (m : Map ℕ). rows k ∷ m) n)
        ∙ climb (rows k) (rows (k + 1)) (from rows (k + 1 + 1) (hi - (k + 1 + 1)))
        ∙ ap (λ (m : Map ℕ). ltb (rows k).key (rows (k + 1)).key && ascending m) (sym n)

    told : good ≡ ltb (key_at w kbits reg k) (probe_key w kbits (take (4 + w * (k + 1) + w - (4 + w * (k + 1))) (drop (4 + w * (k + 1)) reg)) + 0) →
        good ≡ ltb (rows k).key (rows (k + 1)).key
    told g =
        let z : (rows (k + 1)).key + 0 ≡ (rows (k + 1)).key = omega arith in
        g ∙ ap₂ (λ (a b : ℕ). ltb a (b + 0)) (key_here k) (key_there (k + 1) (4 + w * (k + 1)) refl) ∙ ap (ltb (rows k).key) z

    pub climb_on : k + 1 < hi → good ≡ ltb (key_at w kbits reg k) (probe_key w kbits (take (4 + w * (k + 1) + w - (4 + w * (k + 1))) (drop (4 + w * (k + 1)) reg)) + 0) →
        good ≡ true → target ≡ ascending (from rows (k + 1) (hi - (k + 1)))
    climb_on h g t = two h ∙ rw (sym (told g) ∙ t)

    pub climb_not : k + 1 < hi → good ≡ ltb (key_at w kbits reg k) (probe_key w kbits (take (4 + w * (k + 1) + w - (4 + w * (k + 1))) (drop (4 + w * (k + 1)) reg)) + 0) →
        good ≡ false → false ≡ target
    climb_not h g t = sym (two h ∙ rw (sym (told g) ∙ t))

    pub climb_done : hi ≤ k + 1 → true ≡ target
    unfolding ascending all
    climb_done h = sym (inv ∙ ends (tri hi k))
      where
        ends : Tri hi k → ascending (from rows k (hi - k)) ≡ true
        ends (below a _ _) = ap ascending (from_none rows k hi (omega arith))
        ends (equal a _ _) = ap ascending (from_none rows k hi (omega arith))
        ends (above a _ _) = ap ascending (from_next rows k hi a ∙ ap (λ (m : Map ℕ). rows k ∷ m) (from_none rows (k + 1) hi h))
