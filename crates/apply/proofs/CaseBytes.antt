-- A case's row in bytes, and the case put in.
use Prim.Native.Nat.{ℕ, ◌+◌, ◌-◌, ◌*◌, ◌^◌, ◌≤◌, ◌<◌}
use mathlib.Core.Path.{◌≡◌, refl, sym, ap, ap₂, subst, ◌∙◌}
use mathlib.Core.Bool.{Bool, true, false, ◌&&◌}
use mathlib.Core.List.{List}
use native.Mathlib.Nat.{zero-add}
use native.Mathlib.Omega.{arith}
use lib.Dec.{ltb, eqb, leb}
use lib.ListN.{length}
use lib.Pow.{shl_lt}
use Rattle.model.specs.Map.{Row, has, put}
use Rattle.rows.specs.Packing.{num}
use Rattle.rows.proofs.Bytes.{digits-length, digits_fit, num-digits}
use Rattle.register.specs.Layout.{case_rest, cases_held, events_held}
use Rattle.register.specs.State.{split}
use Rattle.register.specs.Moves.{inserted, replaced, with_count}
use Rattle.register.specs.Search.{key_at, probe_key, Placed}
use Rattle.register.specs.Stored.{Stored, cases, with_rows}
use Rattle.register.proofs.Halving.{at_key}
use Rattle.register.proofs.RowBytes.{number_lt}
use Rattle.register.proofs.States.{cases_held_lem, events_held_lem}
use Rattle.register.proofs.Storing.{PutDone, put_done, key_number}
use Rattle.register.proofs.Storing.PutDone.{unfit, full, over, new}
use Rattle.register.proofs.Stores.{room_denied}
use Rattle.home_care.specs.Row.{Case, row_bytes, key_bits, case_bits, case_number, siad, case_zeros_wide}
use Rattle.home_care.specs.Fits.{CaseFits}
use Rattle.home_care.proofs.Table.{case_lt}
use Rattle.home_care.proofs.Laid.{laid_siad}
use Rattle.apply.specs.Cases.{row_for, CaseIn}
use Rattle.apply.specs.RowBytes.{case_bytes}
use Rattle.apply.proofs.RowsPacked.{case_split}
use Rattle.register.specs.RoomAndEmptying.{most_rows}

-- as long as a row
pub case_length : (k : ℕ) (d : Case) → length (case_bytes k d) ≡ row_bytes
case_length k d = digits-length row_bytes ((k * 2 ^ case_bits + case_number d) * 2 ^ case_zeros_wide row_bytes)

module _ (k : ℕ) (d : Case) (hk : k < 2 ^ key_bits) (fd : CaseFits d) where
  abbrev row : List ℕ
  row = case_bytes k d

  row_number : num row ≡ (k * 2 ^ case_bits + case_number d) * 2 ^ case_zeros_wide row_bytes
  row_number =
      num-digits row_bytes ((k * 2 ^ case_bits + case_number d) * 2 ^ case_zeros_wide row_bytes)
      (shl_lt (key_bits + case_bits) (case_zeros_wide row_bytes) (number_lt key_bits case_bits (key_bits + case_bits) (record { key = k; val = case_number d }) refl hk (case_lt d fd)))

  case_is : split (case_rest siad) (num row) ≡ row_for k d
  case_is = case_split k (case_number d) (num row) (case_lt d fd) row_number

  case_key : probe_key row_bytes key_bits row ≡ k
  case_key = key_number cases siad row ∙ ap (λ (r : Row ℕ). r.key) case_is

  module _ (probe : List ℕ) (ep : probe_key row_bytes key_bits probe ≡ k) where
    same_key : probe_key row_bytes key_bits probe ≡ probe_key row_bytes key_bits row
    same_key = ep ∙ sym case_key

    module _ (a : List ℕ) (c v : ℕ) (hc : c ≡ cases_held a) (hv : v ≡ events_held a) where
      done : (b : List ℕ) (r : Bool) → length b ≡ length a → PutDone row_bytes key_bits 0 0 c (c + v) row a b r → CaseIn k d a b
      done b r len x s st ready =
          let ec : c ≡ 0 + length s.cases = hc ∙ cases_held_lem siad laid_siad a s st ∙ sym (zero-add (length s.cases)) in
          let en : c + v ≡ length s.cases + length s.events = ap₂ ◌+◌ (hc ∙ cases_held_lem siad laid_siad a s st) (hv ∙ events_held_lem siad laid_siad a s st) in
          subst (λ (z : Row ℕ). Stored siad b (with_rows cases (put z s.cases) s)) case_is
          (put_done siad laid_siad cases a s st row (case_length k d) (digits_fit row_bytes ((k * 2 ^ case_bits + case_number d) * 2 ^ case_zeros_wide row_bytes)) b r len
          (subst (λ (z : ℕ). PutDone row_bytes key_bits 0 0 z (length s.cases + length s.events) row a b r) ec
          (subst (λ (z : ℕ). PutDone row_bytes key_bits 0 0 c z row a b r) en x))
          (λ o. ready (ap (λ (z : Row ℕ). has z.key s.cases) (sym case_is) ∙ o))).1

      pub case_misfits : (t : Bool) → t ≡ (leb (c + v) most_rows && leb (4 + row_bytes * (c + v)) (length a)) → t ≡ false → CaseIn k d a a
      case_misfits t x f = done a false refl (unfit (room_denied row_bytes (c + v) (length a) t x f) refl refl)

      module _ (i : ℕ) (pl : Placed (key_at row_bytes key_bits a) (probe_key row_bytes key_bits probe + 0) 0 c i) (st : Bool) (es : st ≡ (ltb i c && eqb (key_at row_bytes key_bits a i) (probe_key row_bytes key_bits probe))) where
        place : Placed (key_at row_bytes key_bits a) (probe_key row_bytes key_bits row) 0 c i
        place = subst (λ (z : ℕ). Placed (key_at row_bytes key_bits a) z 0 c i) same_key (at_key (key_at row_bytes key_bits a) (probe_key row_bytes key_bits probe) 0 c i pl)

        stand : (t : Bool) → st ≡ t → (ltb i c && eqb (key_at row_bytes key_bits a i) (probe_key row_bytes key_bits row)) ≡ t
        stand t e = ap (λ (z : ℕ). ltb i c && eqb (key_at row_bytes key_bits a i) z) (sym same_key) ∙ sym es ∙ e

        pub case_over : st ≡ true → (b : List ℕ) → length b ≡ length a → b ≡ replaced row_bytes i row a → CaseIn k d a b
        case_over e b len x = done b true len (over i place (stand true e) refl x)

        pub case_full : st ≡ false → (t : Bool) → t ≡ (leb (c + v + 1) most_rows && leb (4 + row_bytes * (c + v + 1)) (length a)) → t ≡ false → CaseIn k d a a
        case_full e t x f = done a false refl (full i place (stand false e) (λ p q. room_denied row_bytes (c + v + 1) (length a) t x f (omega arith) q) refl refl)

        pub case_new : st ≡ false → (b : List ℕ) → length b ≡ length a → c + v + 1 ≤ most_rows → 4 + row_bytes * (c + v + 1) ≤ length a →
            b ≡ with_count 0 (c + 1) (inserted row_bytes i (c + v) row a) → CaseIn k d a b
        case_new e b len few fits x =
            let z : c + 1 ≡ c - 0 + 1 = omega arith in
            done b true len (new i place (stand false e) (omega arith) fits refl (x ∙ ap (λ (y : ℕ). with_count 0 y (inserted row_bytes i (c + v) row a)) z))

pub case_short : (k : ℕ) (d : Case) (a : List ℕ) → length a < 4 → CaseIn k d a a
case_short k d a h s st ready = absurd (omega (arith, st.long))
