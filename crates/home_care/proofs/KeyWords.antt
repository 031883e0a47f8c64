-- R9 in words: two events have one key exactly when case, kind and date agree, and the code too where they are services.
use Prim.Native.Nat.{ℕ, ◌+◌, ◌*◌, ◌%◌, ◌^◌, ◌<◌}
use mathlib.Core.Path.{◌≡◌, refl, sym, ap, ap₂, subst, ◌∙◌}
use mathlib.Core.Bool.{Bool, true, false, cond}
use mathlib.Core.Logic.{◌↔◌}
use native.Mathlib.Omega.{arith}
use lib.Dec.{eqb}
use borrow.Author.Tests.{eqb-true, eq-eqb}
use Rattle.codes.specs.CodesAndCharacters.{service}
use Rattle.model.specs.Map.{Row}
use Rattle.register.specs.Layout.{case_named}
use Rattle.register.specs.Stored.{events, Sized}
use Rattle.home_care.specs.Row.{Key, Event, row_bytes, siad, key_number, event_number, event_row, event_number_in, event_in, event_bits, evaluation_bits, own_bits, code_bits, kind_of, code_of, event_key_of}
use Rattle.home_care.specs.Fits.{KeyFits, EventFits}
use Rattle.home_care.specs.Keys.{OwnAgree, OneKey}
use Rattle.home_care.proofs.Laid.{row_width}
use Rattle.home_care.proofs.Table.{key_injective, event_lt}
use Rattle.home_care.proofs.EventAllowed.{event_back}
use Rattle.home_care.proofs.EventKeys.{key_dated, key_code, own_lt, row_parts, narrow}
use Rattle.home_care.proofs.ReadBack.{event_key}

module _ (a b : ℕ) (ha : a < 2 ^ event_bits) (hb : b < 2 ^ event_bits) where
  same_code : event_key_of a ≡ event_key_of b → kind_of a ≡ service → kind_of b ≡ service → code_of a ≡ code_of b
  same_code h s t =
      let x : event_key_of a % 2 ^ code_bits ≡ code_of a = key_code a ha ∙ ap (λ (k : Bool). cond k (code_of a) 0) (eq-eqb (kind_of a) service s) in
      let y : event_key_of b % 2 ^ code_bits ≡ code_of b = key_code b hb ∙ ap (λ (k : Bool). cond k (code_of b) 0) (eq-eqb (kind_of b) service t) in
      sym x ∙ ap (λ (k : ℕ). k % 2 ^ code_bits) h ∙ y

  own_words : (event_key_of a ≡ event_key_of b) ↔ OwnAgree (event_in a) (event_in b)
  own_words = (to, from)
    where
      to : event_key_of a ≡ event_key_of b → OwnAgree (event_in a) (event_in b)
      to h =
          let x = key_dated a in
          let y = key_dated b in
          let k : kind_of a ≡ kind_of b = omega arith in
          record { kind = k; date = omega arith; operator = λ s. same_code h s (sym k ∙ s) }

      from : OwnAgree (event_in a) (event_in b) → event_key_of a ≡ event_key_of b
      from h =
          let x = key_dated a in
          let y = key_dated b in
          let u = key_code a ha in
          let v = key_code b hb in
          let c = codes (eqb (kind_of a) service) (λ e. h.operator (eqb-true (kind_of a) service e)) in
          let d = ap (λ (k : ℕ). cond (eqb k service) (code_of b) 0) h.kind in
          let p = h.kind in
          let q = h.date in
          omega arith
        where
          codes : (t : Bool) → (t ≡ true → code_of a ≡ code_of b) → cond t (code_of a) 0 ≡ cond t (code_of b) 0
          codes true e = e refl
          codes false e = refl

-- two keys, each a case's and an own one behind it, are the same where both are
both_parts : (c d a b : ℕ) → a < 2 ^ own_bits → b < 2 ^ own_bits → c * 2 ^ own_bits + a ≡ d * 2 ^ own_bits + b → (c ≡ d) × (a ≡ b)
both_parts c d a b h g e = (omega arith, omega arith)

-- of what records say, whatever evaluations are kept beside it
module _ (k l : Key) (a b : Event) (u v : ℕ) (hk : KeyFits k) (hl : KeyFits l) (ha : EventFits a) (hb : EventFits b) (hu : u < 2 ^ evaluation_bits) (hv : v < 2 ^ evaluation_bits) where
  abbrev m : ℕ
  m = event_number a

  abbrev n : ℕ
  n = event_number b

  back : OwnAgree (event_in m) (event_in n) ≡ OwnAgree a b
  back = ap₂ OwnAgree (event_back a ha) (event_back b hb)

  parts : ((event_row (key_number k) m u).key ≡ key_number k * 2 ^ own_bits + event_key_of m) × ((event_row (key_number l) n v).key ≡ key_number l * 2 ^ own_bits + event_key_of n)
  parts = (event_key (key_number k) m u (event_lt a ha) hu, event_key (key_number l) n v (event_lt b hb) hv)

  pub key_words : ((event_row (key_number k) m u).key ≡ (event_row (key_number l) n v).key) ↔ OneKey k l a b
  key_words = (to, from)
    where
      to : (event_row (key_number k) m u).key ≡ (event_row (key_number l) n v).key → OneKey k l a b
      to h =
          let w = both_parts (key_number k) (key_number l) (event_key_of m) (event_key_of n) (own_lt m (event_lt a ha)) (own_lt n (event_lt b hb)) (sym parts.0 ∙ h ∙ parts.1) in
          let g = subst (λ (t : Type 0). t) back ((own_words m n (event_lt a ha) (event_lt b hb)).0 w.1) in
          record { case = key_injective k l hk hl w.0; own = g }

      from : OneKey k l a b → (event_row (key_number k) m u).key ≡ (event_row (key_number l) n v).key
      from h =
          parts.0
          ∙ ap₂ (λ (c o : ℕ). c * 2 ^ own_bits + o) (ap key_number h.case) ((own_words m n (event_lt a ha) (event_lt b hb)).1 (subst (λ (t : Type 0). t) (sym back) h.own))
          ∙ sym parts.1

-- and of rows that stand
module _ (r t : Row ℕ) (hr : Sized events siad r) (ht : Sized events siad t) where
  pub rows_words : (r.key ≡ t.key) ↔ ((case_named siad r.key ≡ case_named siad t.key) × OwnAgree (event_in (event_number_in r)) (event_in (event_number_in t)))
  rows_words =
      let x = row_parts row_bytes row_width r hr in
      let y = row_parts row_bytes row_width t ht in (
        λ h.
            let w = both_parts (case_named siad r.key) (case_named siad t.key) _ _ (own_lt (event_number_in r) (narrow row_bytes r)) (own_lt (event_number_in t) (narrow row_bytes t)) (sym x ∙ h ∙ y) in
            (w.0, (own_words (event_number_in r) (event_number_in t) (narrow row_bytes r) (narrow row_bytes t)).0 w.1),
        λ h. x ∙ ap₂ (λ (c o : ℕ). c * 2 ^ own_bits + o) h.0 ((own_words (event_number_in r) (event_number_in t) (narrow row_bytes r) (narrow row_bytes t)).1 h.1) ∙ sym y,
      )
