-- An event's key: its case's, and the event's own, by which its place among its case's rows is found.
use Prim.Native.Nat.{ℕ, ◌+◌, ◌*◌, ◌^◌, ◌≤◌, ◌<◌}
use mathlib.Core.Path.{◌≡◌, ap, ◌∙◌}
use mathlib.Core.Logic.{◌⊎◌, inl, inr, ⊎_elim}
use mathlib.Core.List.{List}
use native.Mathlib.Omega.{arith}
use Rattle.laws.proofs.Order.{Tri, below, equal, above, tri}
use Rattle.register.specs.Layout.{event_rest, row_in}
use Rattle.register.specs.State.{split_by}
use Rattle.register.specs.Gap.{bytes_at}
use Rattle.register.specs.Search.{key_at, Placed}
use Rattle.register.specs.Stored.{events, key_part}
use Rattle.register.proofs.GapRows.{key_moved}
use Rattle.register.proofs.Places.{first_is}
use Rattle.home_care.specs.Row.{row_bytes, key_bits, event_key_bits, own_bits, siad, event_key_of}
use Rattle.home_care.specs.EventRows.{event_at, event_key_at, Climbs, OwnPlaced}
use Rattle.home_care.proofs.EventKeys.{own_lt, narrow}
use Rattle.home_care.proofs.EventRows.{key_at_row}

-- the key of the event in row p
abbrev pub row_key : List ℕ → ℕ → ℕ
row_key reg p = key_part events siad (key_at row_bytes event_key_bits reg p)

pub key_parts : (reg : List ℕ) (p : ℕ) → (row_key reg p ≡ key_at row_bytes key_bits reg p * 2 ^ own_bits + event_key_at reg p) × (event_key_at reg p < 2 ^ own_bits)
key_parts reg p =
    (ap (key_part events siad) (first_is events siad reg p) ∙ key_at_row reg p, own_lt (event_at reg p) (narrow row_bytes (split_by siad.spare (event_rest siad) (row_in siad reg p))))

-- an equal row has an equal key
pub row_same : (p q : ℕ) (a b : List ℕ) → bytes_at row_bytes a p ≡ bytes_at row_bytes b q → row_key a p ≡ row_key b q
row_same p q a b e = ap (key_part events siad) (key_moved row_bytes event_key_bits p q a b e)

pub from_or_before : (i p : ℕ) → (i ≤ p) ⊎ (p < i)
from_or_before i p = go (tri p i)
  where
    go : Tri p i → (i ≤ p) ⊎ (p < i)
    go (below l a b) = inr l
    go (equal l a b) = inl (omega arith)
    go (above l a b) = inl (omega arith)

-- the keys of the events from c up to m ascend
abbrev pub Ascends : List ℕ → ℕ → ℕ → Type 0
Ascends reg c m = (p q : ℕ) → c ≤ p → p < q → q < m → row_key reg p < row_key reg q

-- m rows stand in a, the events from c on: those from lo up to t are the case k's, and those in front of and behind them have smaller and larger keys. The
-- place of an event's own key among the case's rows, which b has too, is the place of its whole key among all events.
module _ (k e : ℕ) (a b : List ℕ) (c lo t m r : ℕ) (up : Ascends a c m) (lc : c ≤ lo) (tm : t ≤ m)
    (same : (p : ℕ) → p < t → bytes_at row_bytes b p ≡ bytes_at row_bytes a p) (early : (p : ℕ) → c ≤ p → p < lo → row_key a p < k * 2 ^ own_bits + event_key_of e)
    (inside : (p : ℕ) → lo ≤ p → p < t → key_at row_bytes key_bits a p ≡ k) (late : (p : ℕ) → t ≤ p → p < m → k * 2 ^ own_bits + event_key_of e ≤ row_key a p)
    (pl : OwnPlaced b e lo t r) where
  key_is : (p : ℕ) → lo ≤ p → p < t → row_key a p ≡ k * 2 ^ own_bits + event_key_at b p
  key_is p h l =
      let s = row_same p p b a (same p l) in
      let d = (key_parts b p).0 in
      let i = key_moved row_bytes key_bits p p b a (same p l) ∙ inside p h l in
      omega arith

  own_climbs : Climbs b lo t
  own_climbs x y h l u =
      let z = up x y (omega arith) l (omega arith) in let kx = key_is x h (omega arith) in let ky = key_is y (omega arith) u in omega arith

  pub whole_placed : Placed (row_key a) (k * 2 ^ own_bits + event_key_of e) c m r
  whole_placed =
      record {
        low = omega (arith, pl.low);
        high = omega (arith, pl.high);
        under = λ z p x y.
            ⊎_elim (λ w. let u = pl.under own_climbs p w y in let i = key_is p w (omega (arith, pl.high)) in omega arith) (λ w. early p x w) (from_or_before lo p);
        over = λ z p x y.
            ⊎_elim (λ w. late p w y) (λ w. let u = pl.over own_climbs p x w in let i = key_is p (omega (arith, pl.low)) w in omega arith) (from_or_before t p);
      }
