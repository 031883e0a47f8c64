-- An event's place among its case's rows is its place among all events.
use Prim.Native.Nat.{ℕ, ◌+◌, ◌-◌, ◌*◌, ◌^◌, ◌<◌}
use mathlib.Core.Path.{◌≡◌, refl, sym, subst, ◌∙◌}
use mathlib.Core.Logic.{⊎_elim}
use mathlib.Core.Bool.{true, ◌&&◌}
use mathlib.Core.List.{List}
use native.Mathlib.Omega.{arith}
use lib.Dec.{ltb, eqb}
use lib.ListN.{length}
use borrow.Author.Tests.{ltb-true, eqb-true}
use Rattle.laws.proofs.Truth.{and_left, and_right}
use Rattle.model.specs.Map.{Row, has, put}
use Rattle.model.specs.Flow.{State}
use Rattle.rows.specs.Packing.{num}
use Rattle.rows.proofs.Bytes.{digits_fit}
use Rattle.register.specs.Moves.{replaced}
use Rattle.register.specs.Search.{key_at, Rises, Placed, Ranged}
use Rattle.register.specs.Stored.{Stored, events, split_of, with_rows}
use Rattle.register.proofs.Found.{cases_rise, stands_has}
use Rattle.register.proofs.Places.{Within, keys_climb, within}
use Rattle.register.proofs.Storing.{put_old}
use Rattle.home_care.specs.Row.{key_bits, event_bits, evaluation_bits, siad, event_row, event_row_number, row_bytes, event_key_of, own_bits}
use Rattle.home_care.specs.EventRows.{OwnPlaced}
use Rattle.home_care.proofs.Laid.{laid_siad}
use Rattle.home_care.proofs.EventKeys.{own_lt}
use Rattle.home_care.proofs.ReadBack.{event_key}
use Rattle.apply.specs.RowBytes.{event_bytes}
use Rattle.apply.proofs.OwnKey.{row_key, whole_placed, key_parts, from_or_before}
use Rattle.apply.proofs.Growing.{row_length, row_split}

module _ (k e v : ℕ) (hk : k < 2 ^ key_bits) (he : e < 2 ^ event_bits) (hv : v < 2 ^ evaluation_bits) (a : List ℕ) (s : State ℕ ℕ) (st : Stored siad a s) (c n : ℕ)
    (ec : c ≡ length s.cases) (en : n ≡ length s.cases + length s.events) (lo hi r : ℕ) (rg : Ranged (key_at row_bytes key_bits a) k c n lo hi) (pl : OwnPlaced a e lo hi r) where
  abbrev row : List ℕ
  row = event_bytes k e v

  abbrev end : ℕ
  end = length s.cases + length s.events

  rise : Rises (key_at row_bytes key_bits a) c n
  rise p q x y z = cases_rise siad laid_siad a s st p q (omega arith) y (omega arith)

  key_is : (event_row k e v).key ≡ k * 2 ^ own_bits + event_key_of e
  key_is = event_key k e v he hv

  -- the place found by the event's own key is that of the whole key
  placed : Placed (row_key a) (event_row k e v).key (length s.cases) end r
  placed =
      let z : event_key_of e < 2 ^ own_bits = own_lt e he in
      let y : Placed (row_key a) (k * 2 ^ own_bits + event_key_of e) c n r
      = whole_placed k e a a c lo hi n r (λ p q x y z. keys_climb siad laid_siad events a s st p q (omega arith) y (omega arith)) rg.low rg.high
      (λ p h. refl) (λ p x y. let u = rg.before rise p x y in let d = key_parts a p in omega arith) (rg.inside rise)
      (λ p x y. let u = rg.after rise p x y in let d = key_parts a p in omega arith) pl in
      subst (λ (x : ℕ). Placed (row_key a) x (length s.cases) end r) (sym key_is)
      (subst (λ (x : ℕ). Placed (row_key a) (k * 2 ^ own_bits + event_key_of e) (length s.cases) x r) en
      (subst (λ (x : ℕ). Placed (row_key a) (k * 2 ^ own_bits + event_key_of e) x n r) ec y))

  -- where the event's key stands
  module _ (h : has (event_row k e v).key s.events ≡ true) where
    stands : ltb r end && eqb (row_key a r) (event_row k e v).key ≡ true
    stands = stands_has siad laid_siad events a s st (event_row k e v).key end r refl placed ∙ h

    -- it is the key of the row found, which is the case's
    pub found : r < hi
    found =
        let t = ltb r end in
        let u = eqb (row_key a r) (event_row k e v).key in
        let x : r < end = ltb-true r end (and_left t u stands) in
        let y : row_key a r ≡ (event_row k e v).key = eqb-true (row_key a r) (event_row k e v).key (and_right t u stands) in
        ⊎_elim (λ w. let v = rg.after rise r w (omega arith) in let d = key_parts a r in absurd (omega (arith, key_is, own_lt e he))) (λ w. w) (from_or_before hi r)

    -- and the event over that row is the event put in
    pub written_over : (b : List ℕ) → length b ≡ length a → b ≡ replaced row_bytes r row a → Stored siad b (with_rows events (put (event_row k e v) s.events) s)
    written_over b len x =
        let q : split_of events siad (num row) ≡ event_row k e v = row_split k e v hk he hv in
        let w = within siad laid_siad events a s st (event_row k e v).key end r refl placed stands in
        subst (λ (y : Row ℕ). Stored siad b (with_rows events (put y s.events) s)) q
        (put_old siad laid_siad events a s st row (row_length k e v) (digits_fit row_bytes (event_row_number k e v)) b r placed.low
        (subst (λ (y : Row ℕ). Within s.events y.key (r - length s.cases)) (sym q) w) len x)
