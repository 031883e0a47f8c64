-- A case's rows, which ascend: what is looked for in a part of them, an event found by its key, and the rows of a kind by their first bits.
use Prim.Native.Nat.{ℕ, zero, suc, ◌+◌, ◌-◌, ◌≤◌, ◌<◌}
use mathlib.Core.Path.{◌≡◌, refl, sym, ap, ap₂, ◌∙◌}
use mathlib.Core.Bool.{Bool, true, false, ◌||◌, or-false, or-true, true≢false}
use mathlib.Core.List.{List, [], ◌∷◌, map}
use native.Mathlib.Omega.{arith}
use lib.Dec.{eqb}
use borrow.Author.Tests.{ne_eqb}
use Rattle.laws.specs.Lists.{any, some_pair}
use Rattle.laws.proofs.Order.{Tri, below, equal, above, tri}
use Rattle.laws.proofs.Truth.{or_left, or_right}
use Rattle.laws.proofs.Lists.{any_append}
use Rattle.laws.proofs.Every.{any_tell}
use Rattle.model.specs.Map.{Row}
use Rattle.register.specs.Layout.{event_rest, row_in}
use Rattle.register.specs.State.{from, split_by}
use Rattle.register.specs.Gap.{field_in}
use Rattle.register.specs.Search.{Rises, Placed}
use Rattle.register.proofs.From.{from_cut}
use Rattle.register.proofs.Walks.{from_next, from_none, from_every}
use Rattle.home_care.specs.Row.{row_bytes, key_bits, kind_bits, event_bits, siad, kind_of, event_number_in, event_key_of}
use Rattle.home_care.specs.EventRows.{event_at, event_key_at, Climbs, OwnPlaced}
use Rattle.home_care.proofs.EventRows.{first_bits, bits_rise}
use Rattle.judge.specs.ByNumber.{key_among}
use Rattle.judge.specs.CaseRows.{standing_in, Settled, Outside}

-- ---- the events in some rows

map-from : (f : ℕ → Row ℕ) (i k : ℕ) → map event_number_in (from f i k) ≡ from (λ j. event_number_in (f j)) i k
unfolding from
map-from f i zero = refl
map-from f i (suc k) = ap (λ (l : List ℕ). event_number_in (f i) ∷ l) (map-from f (suc i) k)

module _ (reg : List ℕ) where
  -- row j, cut behind its event's key
  abbrev pub row : ℕ → Row ℕ
  row j = split_by siad.spare (event_rest siad) (row_in siad reg j)

  rows : (i k : ℕ) → standing_in reg i k ≡ from (event_at reg) i (k - i)
  rows i k = map-from row i (k - i)

  pub next_row : (i hi : ℕ) → i < hi → standing_in reg i hi ≡ event_at reg i ∷ standing_in reg (i + 1) hi
  next_row i hi h = ap (map event_number_in) (from_next row i hi h)

  pub no_row : (i hi : ℕ) → hi ≤ i → standing_in reg i hi ≡ []
  no_row i hi h = ap (map event_number_in) (from_none row i hi h)

  module _ (q : ℕ → Bool) where
    any_cut : (lo i hi : ℕ) → lo ≤ i → i ≤ hi → any q (standing_in reg lo hi) ≡ (any q (standing_in reg lo i) || any q (standing_in reg i hi))
    any_cut lo i hi h g =
        ap (any q) (rows lo hi ∙ from_cut (event_at reg) lo i hi h g) ∙ any_append q (from (event_at reg) lo (i - lo)) (from (event_at reg) i (hi - i))
        ∙ ap₂ (λ (a b : List ℕ). any q a || any q b) (sym (rows lo i)) (sym (rows i hi))

    any_none : (lo hi : ℕ) → lo ≤ hi → ((k : ℕ) → lo ≤ k → k < hi → q (event_at reg k) ≡ false) → any q (standing_in reg lo hi) ≡ false
    any_none lo hi h f =
        ap (any q) (rows lo hi) ∙ any_tell q (from (event_at reg) lo (hi - lo)) (from_every (event_at reg) (λ x. q x ≡ false) lo (hi - lo) (λ j a b. f j a (omega arith)))

    any_one : (lo i hi : ℕ) → lo ≤ i → i < hi → q (event_at reg i) ≡ true → any q (standing_in reg lo hi) ≡ true
    unfolding any
    any_one lo i hi h g e =
        any_cut lo i hi h (omega arith) ∙ ap (λ (l : List ℕ). any q (standing_in reg lo i) || any q l) (next_row i hi g) ∙ rw e (or-true (any q (standing_in reg lo i)))

    -- where no row passes, this one does not
    pub any_not : (lo i hi : ℕ) → lo ≤ i → i < hi → any q (standing_in reg lo hi) ≡ false → q (event_at reg i) ≡ false
    any_not lo i hi h g e = go (q (event_at reg i)) refl
      where
        go : (b : Bool) → q (event_at reg i) ≡ b → q (event_at reg i) ≡ false
        go true t = absurd (true≢false (sym (any_one lo i hi h g t) ∙ e))
        go false t = t

  -- where no two rows pass, these two do not
  pub pair_not : (t : ℕ → ℕ → Bool) (n lo p q hi : ℕ) → p ≡ lo + n → p < q → q < hi → some_pair t (standing_in reg lo hi) ≡ false → t (event_at reg p) (event_at reg q) ≡ false
  unfolding some_pair
  pair_not t zero lo p q hi e h g none =
      let a : p ≡ lo = omega arith in
      let here = or_left (any (t (event_at reg lo)) (standing_in reg (lo + 1) hi)) _ (ap (some_pair t) (sym (next_row lo hi (omega arith))) ∙ none) in
      rw a (any_not (t (event_at reg lo)) (lo + 1) q hi (omega arith) g here)
  pair_not t (suc n) lo p q hi e h g none =
      let rest = or_right (any (t (event_at reg lo)) (standing_in reg (lo + 1) hi)) _ (ap (some_pair t) (sym (next_row lo hi (omega arith))) ∙ none) in
      pair_not t n (lo + 1) p q hi (omega arith) h g rest

-- where only a part of the rows can pass, the part is enough
pub part_enough : (q p : ℕ → Bool) (reg : List ℕ) (lo hi a e : ℕ) → ((b : ℕ) → q b ≡ false → p b ≡ false) → Outside q reg lo hi a e → Settled reg lo hi →
    any p (standing_in reg lo hi) ≡ any p (standing_in reg a e)
part_enough q p reg lo hi a e f o settled =
    any_cut reg p lo a hi o.low (omega (arith, o.mid, o.high))
    ∙ ap₂ (λ (s t : Bool). s || t) (any_none reg p lo a o.low (λ k h g. f (event_at reg k) (o.before settled k h g))) (any_cut reg p a e hi o.mid o.high)
    ∙ ap (λ (s : Bool). any p (standing_in reg a e) || s) (any_none reg p e hi o.high (λ k h g. f (event_at reg k) (o.after settled k h g)))
    ∙ or-false (any p (standing_in reg a e))

-- ---- found by the first bits behind the case's key, and by the key

module _ (reg : List ℕ) (lo hi : ℕ) (up : Climbs reg lo hi) where
  -- from any row on, they do not fall
  pub part_rises : (k a : ℕ) → k ≤ event_bits → lo ≤ a → Rises (field_in row_bytes key_bits k reg) a hi
  part_rises k a few h = bits_rise reg a hi (λ p q x y z. up p q (omega arith) y z) k few

  -- an event's key stands at its place, or nowhere
  module _ (e i : ℕ) (pl : OwnPlaced reg e lo hi i) where
    abbrev same : ℕ → Bool
    same a = eqb (event_key_of a) (event_key_of e)

    smaller : (j : ℕ) → lo ≤ j → j < i → same (event_at reg j) ≡ false
    smaller j h g = ne_eqb (event_key_at reg j) (event_key_of e) (λ x. omega (arith, pl.under up j h g))

    pub has_none : hi ≤ i → false ≡ key_among (standing_in reg lo hi) e
    has_none h =
        sym (any_none reg same lo hi (omega (arith, pl.low, pl.high)) (λ j x y. smaller j x (omega arith)))

    pub has_here : i < hi → same (event_at reg i) ≡ key_among (standing_in reg lo hi) e
    has_here h = go (tri (event_key_at reg i) (event_key_of e))
      where
        go : Tri (event_key_at reg i) (event_key_of e) → same (event_at reg i) ≡ key_among (standing_in reg lo hi) e
        go (below l _ t) = absurd (omega (arith, pl.over up i (omega arith) h))
        go (equal l _ t) = t ∙ sym (any_one reg same lo i hi pl.low h t)
        go (above l _ t) = t ∙ sym (any_none reg same lo hi (omega (arith, pl.low)) (λ j x y. near j x y (tri j i)))
          where
            near : (j : ℕ) → lo ≤ j → j < hi → Tri j i → same (event_at reg j) ≡ false
            near j x y (below m _ _) = smaller j x m
            near j x y (equal m _ _) = ne_eqb (event_key_at reg j) (event_key_of e) (λ w. let v : event_key_at reg j ≡ event_key_at reg i = ap (event_key_at reg) m in omega arith)
            near j x y (above m _ _) = ne_eqb (event_key_at reg j) (event_key_of e) (λ w. omega (arith, up i j pl.low m y))

-- the rows of a kind: from the first that is not below it up to the first of a later kind
pub kind_rows : (reg : List ℕ) (lo hi kind a e : ℕ) → Placed (field_in row_bytes key_bits kind_bits reg) kind lo hi a → Placed (field_in row_bytes key_bits kind_bits reg) (kind + 1) a hi e →
    Outside (λ b. eqb (kind_of b) kind) reg lo hi a e
kind_rows reg lo hi kind a e p q =
    record {
      low = p.low;
      mid = q.low;
      high = q.high;
      before = λ settled k h g.
          ne_eqb (kind_of (event_at reg k)) kind (λ w. omega (arith, at k, p.under (part_rises reg lo hi settled.climbs kind_bits lo (omega arith) (omega arith)) k h g));
      after = λ settled k h g.
          ne_eqb (kind_of (event_at reg k)) kind (λ w. omega (arith, at k, q.over (part_rises reg lo hi settled.climbs kind_bits a (omega arith) p.low) k h g));
    }
  where
    at : (k : ℕ) → field_in row_bytes key_bits kind_bits reg k ≡ kind_of (event_at reg k)
    at k = first_bits reg kind_bits k (omega arith)
