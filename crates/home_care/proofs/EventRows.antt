-- The events in a register's rows, by their first bits: a search by as many bits as an own key has finds the place of the key.
use Prim.Native.Nat.{ℕ, ◌+◌, ◌-◌, ◌*◌, ◌/◌, ◌%◌, ◌^◌, ◌≤◌, ◌<◌}
use mathlib.Core.Path.{◌≡◌, sym, ap, ap₂, ◌∙◌}
use mathlib.Core.List.{List}
use mathlib.Core.Logic.{◌↔◌}
use native.Mathlib.Omega.{arith}
use lib.Pow.{shr-shr, field}
use Rattle.rows.specs.Packing.{field_at}
use Rattle.register.specs.Layout.{row_in}
use Rattle.register.specs.Gap.{field_in}
use Rattle.register.specs.Search.{key_at, Rises, Placed}
use Rattle.register.specs.Stored.{events, split_of}
use Rattle.register.proofs.MixedKeys.{number_of}
use Rattle.register.proofs.Places.{under_by, over_by}
use Rattle.home_care.specs.Row.{row_bytes, key_bits, event_bits, tail_bits, own_bits, siad, event_key_of}
use Rattle.home_care.specs.EventRows.{event_at, event_key_at, Climbs, OwnPlaced, own_bits_of}
use Rattle.home_care.proofs.Laid.{row_width}
use Rattle.home_care.proofs.EventKeys.{own_below, own_rise, key_cut}

module _ (reg : List ℕ) where
  pub event_bits_lem : (i : ℕ) → event_at reg i ≡ field_at tail_bits event_bits (row_in siad reg i)
  event_bits_lem i = ap (field_at tail_bits event_bits) (number_of events siad (row_in siad reg i))

  -- the first k bits behind the case's key
  pub first_bits : (k i : ℕ) → k ≤ event_bits → field_in row_bytes key_bits k reg i ≡ event_at reg i / 2 ^ (event_bits - k)
  unfolding field_in row_in
  first_bits k i h =
      let n : ℕ = row_in siad reg i in
      let e : 8 * row_bytes - (key_bits + k) ≡ tail_bits + (event_bits - k) = omega arith in
      let f : event_bits ≡ k + (event_bits - k) = omega arith in
      ap (λ (j : ℕ). n / 2 ^ j % 2 ^ k) e
      ∙ ap (λ (m : ℕ). m % 2 ^ k) (sym (shr-shr n tail_bits (event_bits - k)))
      ∙ sym (ap (λ (j : ℕ). n / 2 ^ tail_bits % 2 ^ j / 2 ^ (event_bits - k)) f ∙ field (n / 2 ^ tail_bits) k (event_bits - k))
      ∙ ap (λ (e : ℕ). e / 2 ^ (event_bits - k)) (sym (event_bits_lem i))

  -- a row's key is that of its case and the own one
  case_bits : (i : ℕ) → row_in siad reg i / 2 ^ tail_bits / 2 ^ event_bits ≡ key_at row_bytes key_bits reg i
  unfolding key_at row_in
  case_bits i = shr-shr (row_in siad reg i) tail_bits event_bits

  pub key_at_row : (i : ℕ) → (split_of events siad (row_in siad reg i)).key ≡ key_at row_bytes key_bits reg i * 2 ^ own_bits + event_key_at reg i
  key_at_row i =
      key_cut row_bytes row_width (row_in siad reg i)
      ∙ ap₂ (λ (a b : ℕ). a * 2 ^ own_bits + event_key_of b) (case_bits i) (sym (event_bits_lem i))

  -- where the keys ascend, first bits do not fall
  pub bits_rise : (lo hi : ℕ) → Climbs reg lo hi → (k : ℕ) → k ≤ event_bits → Rises (field_in row_bytes key_bits k reg) lo hi
  bits_rise lo hi up k h p q a b c =
      rw (first_bits k p h, first_bits k q h) (own_rise (event_at reg p) (event_at reg q) (event_bits - k) (up p q a b c))

  -- by as many bits as the own key of e has
  module _ (e bits v : ℕ) (hb : bits ≡ own_bits_of e) (few : bits ≤ event_bits) (hv : v ≡ e / 2 ^ (event_bits - bits)) where
    abbrev f : ℕ → ℕ
    f = field_in row_bytes key_bits bits reg

    shown : (k : ℕ) → (f k ≡ event_at reg k / 2 ^ (event_bits - own_bits_of e)) × (v ≡ e / 2 ^ (event_bits - own_bits_of e))
    shown k =
        let z : event_bits - bits ≡ event_bits - own_bits_of e = ap (λ (b : ℕ). event_bits - b) hb in
        (first_bits bits k few ∙ ap (λ (j : ℕ). event_at reg k / 2 ^ j) z, hv ∙ ap (λ (j : ℕ). e / 2 ^ j) z)

    -- a row is below by its key where it is below by its bits
    alike : (k : ℕ) → (event_key_at reg k < event_key_of e) ↔ (f k < v)
    alike k =
        let a = (shown k).0 in
        let b = (shown k).1 in
        let c = own_below (event_at reg k) e in
        (λ h. let d = c.0 h in omega arith, λ h. c.1 (omega arith))

    -- and the place found by them is the place of the key
    pub own_found : (lo hi r : ℕ) → Placed f v lo hi r → OwnPlaced reg e lo hi r
    own_found lo hi r pl =
        record {
          low = pl.low;
          high = pl.high;
          under = λ up. under_by f (event_key_at reg) v (event_key_of e) lo hi r alike (bits_rise lo hi up bits few) pl;
          over = λ up. over_by f (event_key_at reg) v (event_key_of e) lo hi r alike (bits_rise lo hi up bits few) pl;
        }
