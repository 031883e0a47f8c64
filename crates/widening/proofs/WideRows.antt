-- A row of before in five bytes more: its bytes, its number, its fields and sizes, and that it is allowed.
use Prim.Native.Nat.{ℕ, ◌+◌, ◌-◌, ◌*◌, ◌/◌, ◌%◌, ◌^◌}
use mathlib.Core.Path.{◌≡◌, sym, ap, ◌∙◌}
use mathlib.Core.Bool.{Bool, true, ◌&&◌, ◌||◌, false≢true}
use mathlib.Core.List.{List, ◌++◌}
use mathlib.Core.Logic.{⊎_elim}
use native.Mathlib.Omega.{arith}
use lib.Dec.{eqb}
use lib.ListN.{length, length-append}
use lib.Pow.{shl-shr, shr-shr, shl_lt}
use borrow.Author.Tests.{eqb-true, eq-eqb}
use Rattle.laws.proofs.Truth.{and_left, and_right, either}
use Rattle.laws.proofs.Every.{and_tell}
use Rattle.model.specs.Map.{Row}
use Rattle.rows.specs.Packing.{Field, each, packs, Fit, num, digits, field_at}
use Rattle.rows.proofs.Packing.{packs_append, fit_append}
use Rattle.rows.proofs.Bytes.{each_append, fit_same, bytes_are}
use Rattle.register.specs.State.{unsplit}
use Rattle.register.specs.Stored.{Group, cases, events, rest_of, Sized}
use Rattle.home_care.specs.Row.{row_bytes, old_bytes, event_bits, home_care, siad, case_zeros_wide, tail_bits_wide, zero_bits, key_in, case_of, case_in_wide, case_pad_wide, case_in, case_pad, event_number_in_wide, tail_in_wide, event_number_in, tail_in, evaluation_in, evaluates, event_in, evaluation_of, zero_bits_wide}
use Rattle.home_care.specs.Allowed.{key_allowed, case_allowed, case_rest_allowed, case_row_allowed_wide, event_allowed, evaluation_allowed, room_to_evaluate, tail_allowed_wide, event_row_allowed_wide}
use Rattle.widening.specs.Widened.{wide_row}
use Rattle.widening.proofs.Laying.{behind}

-- the bits of the zero bytes
abbrev pub behind_bits : ℕ
behind_bits = 8 * (row_bytes - old_bytes)

-- ---- its bytes and its number

zeros_behind : (n : ℕ) → packs (each 8 behind) n ≡ n * 2 ^ behind_bits
unfolding packs
zeros_behind n = omega arith

num-behind : (t : List ℕ) → num (t ++ behind) ≡ num t * 2 ^ behind_bits
num-behind t =
    ap (λ (l : List Field). packs l 0) (each_append 8 t behind) ∙ packs_append (each 8 t) (each 8 behind) 0 ∙ zeros_behind (num t)

pub fit_both : (a b : List ℕ) → Fit (each 8 a) → Fit (each 8 b) → Fit (each 8 (a ++ b))
fit_both a b f g = rw (each_append 8 a b) (fit_append (each 8 a) (each 8 b) f g)

pub row_bytes_lem : (t : List ℕ) → Fit (each 8 t) → length t ≡ old_bytes → digits row_bytes (num t * 2 ^ behind_bits) ≡ t ++ behind
row_bytes_lem t f l =
    sym
    (bytes_are (t ++ behind) row_bytes (num t * 2 ^ behind_bits)
    (fit_both t behind f (fit_same 8 (row_bytes - old_bytes) 0 (omega arith))) (length-append t behind ∙ omega arith) (num-behind t))

pub wide_number : (g : Group) (r : Row ℕ) → unsplit (rest_of g siad) (wide_row r) ≡ unsplit (rest_of g (home_care old_bytes)) r * 2 ^ behind_bits
wide_number cases r = omega arith
wide_number events r = omega arith

-- ---- its fields: they are counted from the front

-- what stood above k bits
above : (n k : ℕ) → n * 2 ^ behind_bits / 2 ^ (behind_bits + k) ≡ n / 2 ^ k
above n k = sym (shr-shr (n * 2 ^ behind_bits) behind_bits k) ∙ ap (λ (m : ℕ). m / 2 ^ k) (shl-shr n behind_bits)

module _ (r : Row ℕ) where
  pub case_fields_lem : case_in (wide_row r).val ≡ case_in_wide old_bytes r.val
  case_fields_lem = ap case_of (above r.val (case_zeros_wide old_bytes))

  pub event_fields : event_number_in (wide_row r) ≡ event_number_in_wide old_bytes r
  event_fields =
      let n : ℕ = unsplit (rest_of events (home_care old_bytes)) r in
      ap (field_at (tail_bits_wide row_bytes) event_bits) (wide_number events r) ∙ ap (λ (m : ℕ). m % 2 ^ event_bits) (above n (tail_bits_wide old_bytes))

  -- zero bits stay zero bits
  pad_zero : case_pad_wide old_bytes r.val ≡ 0 → case_pad (wide_row r).val ≡ 0
  pad_zero e = omega arith

  tail_zero : tail_in_wide old_bytes r ≡ 0 → tail_in (wide_row r) ≡ 0
  tail_zero e = ap (λ (m : ℕ). m % 2 ^ tail_bits_wide row_bytes) (wide_number events r) ∙ omega arith

  -- ---- it is allowed

  pub case_allowed_lem : case_row_allowed_wide old_bytes r ≡ true → case_row_allowed_wide row_bytes (wide_row r) ≡ true
  case_allowed_lem h =
      let k = key_in r.key in
      let rest : case_rest_allowed old_bytes k r.val ≡ true = and_right (key_allowed k) _ h in
      let c : case_allowed k (case_in_wide old_bytes r.val) ≡ true = and_left (case_allowed k (case_in_wide old_bytes r.val)) _ rest in
      let z : case_pad_wide old_bytes r.val ≡ 0 = eqb-true (case_pad_wide old_bytes r.val) 0 (and_right (case_allowed k (case_in_wide old_bytes r.val)) _ rest) in
      and_tell (key_allowed k) _ (and_left (key_allowed k) _ h)
      (and_tell (case_allowed k (case_in (wide_row r).val)) _ (ap (case_allowed k) case_fields_lem ∙ c) (eq-eqb (case_pad (wide_row r).val) 0 (pad_zero z)))

  module _ (h : event_row_allowed_wide old_bytes r ≡ true) where
    abbrev event : ℕ
    event = event_number_in_wide old_bytes r

    abbrev tail : ℕ
    tail = tail_in_wide old_bytes r

    -- in 91 bytes an evaluation has no room
    bare : tail ≡ 0
    bare =
        ⊎_elim (λ e. eqb-true tail 0 e)
        (λ e. absurd (false≢true (and_right (evaluates event) (room_to_evaluate old_bytes) (and_left (evaluates event && room_to_evaluate old_bytes) _ e))))
        (either (eqb tail 0) _ (and_right (event_allowed (event_in event)) (tail_allowed_wide old_bytes event tail) h))

    pub event_allowed_lem : event_row_allowed_wide row_bytes (wide_row r) ≡ true
    event_allowed_lem =
        let e : ℕ = event_number_in (wide_row r) in
        let t : ℕ = tail_in (wide_row r) in
        and_tell (event_allowed (event_in e)) (tail_allowed_wide row_bytes e t)
        (ap (λ (n : ℕ). event_allowed (event_in n)) event_fields ∙ and_left (event_allowed (event_in event)) (tail_allowed_wide old_bytes event tail) h)
        (ap (λ (b : Bool). b || ((evaluates e && room_to_evaluate row_bytes) && (evaluation_allowed (evaluation_of (t / 2 ^ zero_bits_wide row_bytes)) && eqb (t % 2 ^ zero_bits_wide row_bytes) 0))) (eq-eqb t 0 (tail_zero bare)))

    pub none_kept : eqb (evaluation_in (wide_row r)) 0 ≡ true
    none_kept = ap (λ (n : ℕ). eqb (n / 2 ^ zero_bits) 0) (tail_zero bare)

-- ---- it has its sizes

pub wide_sized : (g : Group) (r : Row ℕ) → Sized g (home_care old_bytes) r → Sized g siad (wide_row r)
wide_sized cases r h = (h.0, omega (arith, h.1), h.2)
wide_sized events r h =
    let s : ℕ = siad.spare r.key in
    let old : ℕ = rest_of events (home_care old_bytes) in
    let e : s + old + behind_bits ≡ s + rest_of events siad = omega arith in
    (h.0, rw (← e) (shl_lt (s + old) behind_bits h.1), h.2)
