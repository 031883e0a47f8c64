-- A record's key, case and events read back out of the rows that they make.
use Prim.Native.Nat.{ℕ, ◌+◌, ◌-◌, ◌*◌, ◌/◌, ◌%◌, ◌^◌, ◌<◌}
use mathlib.Core.Path.{◌≡◌, refl, sym, ap, ap₂, ◌∙◌}
use mathlib.Core.List.{List, [], ◌∷◌, ◌++◌}
use native.Mathlib.Omega.{arith}
use lib.ListN.{length, take, drop, get_or}
use lib.Pow.{shl-shr, shl_lt}
use lib.Seq.{take_at, drop_at, take_all}
use Rattle.rows.specs.Packing.{unpacks, field_at}
use Rattle.rows.proofs.Packing.{unpacks-packs}
use Rattle.register.proofs.RowBytes.{number_lt}
use Rattle.register.specs.Layout.{case_rest, event_rest, case_named}
use Rattle.register.specs.State.{unsplit}
use Rattle.register.specs.Stored.{events, Sized}
use Rattle.register.proofs.MixedKeys.{number_of, sizes_by}
use Rattle.home_care.specs.Row.{Key, Case, Evaluation, key_fields, case_fields, evaluation_fields, key_number, case_number, evaluation_number, case_bits, event_bits, evaluation_bits, tail_bits, zero_bits, key_bits, row_bytes, siad, key_in, case_of, case_in, case_pad, taken_in, evaluation_of, event_number_in, tail_in, evaluation_in, event_row_number, event_row, event_key_of, own_bits}
use Rattle.home_care.specs.Fits.{KeyFits, CaseFits, EvaluationFits}
use Rattle.home_care.proofs.Laid.{row_width, laid_siad}
use Rattle.home_care.proofs.EventKeys.{own_lt, key_cut}
use Rattle.home_care.proofs.Table.{key_fit, case_fit, evaluation_fit, key_values, key_widths_lem, case_values, case_widths_lem, evaluation_values, evaluation_widths_lem}

abbrev key_from : List ℕ → Key
key_from vs = record { region = get_or vs 0 0; asl = take 3 (drop 1 vs); taken = get_or vs 4 0; id = drop 5 vs }

key_parts : (r : ℕ) (l : List ℕ) (t : ℕ) (i : List ℕ) → length l ≡ 3 → key_from (r ∷ (l ++ (t ∷ i))) ≡ record { region = r; asl = l; taken = t; id = i }
key_parts r [] t i e = absurd (omega arith)
key_parts r (a ∷ []) t i e = absurd (omega arith)
key_parts r (a ∷ b ∷ []) t i e = absurd (omega arith)
key_parts r (a ∷ b ∷ c ∷ []) t i e = refl
key_parts r (a ∷ b ∷ c ∷ d ∷ l) t i e = absurd (omega arith)

pub key_read : (k : Key) → KeyFits k → key_in (key_number k) ≡ k
key_read k h =
    ap (λ (ws : List ℕ). key_from (unpacks ws (key_number k))) (sym (key_widths_lem k h))
    ∙ ap key_from (unpacks-packs (key_fields k) 0 (key_fit k h) ∙ key_values k)
    ∙ key_parts k.region k.asl k.taken k.id h.asl-length

pub taken_read : (k : Key) → KeyFits k → taken_in (key_number k) ≡ k.taken
taken_read k h = ap (λ (j : Key). j.taken) (key_read k h)

abbrev case_from : List ℕ → Case
case_from vs = record { birth = get_or vs 0 0; prevalente = take 5 (drop 1 vs); scales = take 6 (drop 6 vs) }

case_parts : (b : ℕ) (p s : List ℕ) → length p ≡ 5 → length s ≡ 6 → case_from (b ∷ (p ++ s)) ≡ record { birth = b; prevalente = p; scales = s }
case_parts b p s e f =
    let x : take 5 (p ++ s) ≡ p = take_at p s 5 e in
    let y : take 6 (drop 5 (p ++ s)) ≡ s = ap (take 6) (drop_at p s 5 e) ∙ take_all 6 s (omega arith) in
    λ i. record { birth = b; prevalente = x i; scales = y i }

case_back : (c : Case) → CaseFits c → case_of (case_number c) ≡ c
case_back c h =
    ap (λ (ws : List ℕ). case_from (unpacks ws (case_number c))) (sym (case_widths_lem c h))
    ∙ ap case_from (unpacks-packs (case_fields c) 0 (case_fit c h) ∙ case_values c)
    ∙ case_parts c.birth c.prevalente c.scales h.prevalente-length h.scales-length

pub case_read : (c : Case) → CaseFits c → case_in (case_number c * 2 ^ (case_rest siad - case_bits)) ≡ c
case_read c h = ap case_of (shl-shr (case_number c) (case_rest siad - case_bits)) ∙ case_back c h

pub case_pad_lem : (n : ℕ) → case_pad (n * 2 ^ (case_rest siad - case_bits)) ≡ 0
case_pad_lem n = omega arith

-- an evaluation, from its number
abbrev evaluation_from : List ℕ → Evaluation
evaluation_from vs = record { scales = take 6 vs; prevalente = drop 6 vs }

evaluation_parts : (s p : List ℕ) → length s ≡ 6 → evaluation_from (s ++ p) ≡ record { scales = s; prevalente = p }
evaluation_parts s p e =
    let x : take 6 (s ++ p) ≡ s = take_at s p 6 e in
    let y : drop 6 (s ++ p) ≡ p = drop_at s p 6 e in
    λ i. record { scales = x i; prevalente = y i }

pub evaluation_back : (v : Evaluation) → EvaluationFits v → evaluation_of (evaluation_number v) ≡ v
evaluation_back v h =
    ap (λ (ws : List ℕ). evaluation_from (unpacks ws (evaluation_number v))) (sym (evaluation_widths_lem v h))
    ∙ ap evaluation_from (unpacks-packs (evaluation_fields v) 0 (evaluation_fit v h) ∙ evaluation_values v)
    ∙ evaluation_parts v.scales v.prevalente h.scales-length

-- an event's row: its case, its 52 bits, its evaluation, the zero bits behind them
module _ (c e v : ℕ) (h : e < 2 ^ event_bits) (l : v < 2 ^ evaluation_bits) where
  abbrev number : ℕ
  number = event_row_number c e v

  whole : unsplit (event_rest siad) (event_row c e v) ≡ number
  whole = number_of events siad number

  pub event_read : event_number_in (event_row c e v) ≡ e
  event_read = ap (field_at tail_bits event_bits) whole ∙ back
    where
      back : field_at tail_bits event_bits number ≡ e
      back = omega arith

  pub tail_read : tail_in (event_row c e v) ≡ v * 2 ^ zero_bits
  tail_read = ap (λ (n : ℕ). n % 2 ^ tail_bits) whole ∙ back
    where
      back : number % 2 ^ tail_bits ≡ v * 2 ^ zero_bits
      back = omega arith

  pub evaluation_read : evaluation_in (event_row c e v) ≡ v
  evaluation_read = ap (λ (n : ℕ). n / 2 ^ zero_bits) tail_read ∙ shl-shr v zero_bits

  pub event_key : (event_row c e v).key ≡ c * 2 ^ own_bits + event_key_of e
  event_key =
      key_cut row_bytes row_width number
      ∙ ap₂ (λ (a b : ℕ). a * 2 ^ own_bits + event_key_of b) in_front (ap (field_at tail_bits event_bits) (sym whole) ∙ event_read)
    where
      in_front : number / 2 ^ tail_bits / 2 ^ event_bits ≡ c
      in_front = omega arith

  pub event_case : case_named siad (event_row c e v).key ≡ c
  event_case = let k = event_key in let o = own_lt e h in omega arith

  -- it has the bits of a row
  module _ (g : c < 2 ^ key_bits) where
    pub event_row_lt : number < 2 ^ (8 * row_bytes)
    event_row_lt =
        shl_lt (key_bits + event_bits + evaluation_bits) zero_bits
        (number_lt (key_bits + event_bits) evaluation_bits (key_bits + event_bits + evaluation_bits) (record { key = c * 2 ^ event_bits + e; val = v }) refl
        (number_lt key_bits event_bits (key_bits + event_bits) (record { key = c; val = e }) refl g h) l)

    pub event_sized : Sized events siad (event_row c e v)
    event_sized = sizes_by events siad laid_siad number event_row_lt

-- packing loses nothing: one row, one case, one event, one evaluation
pub row_injective : (c d e f u v : ℕ) → e < 2 ^ event_bits → f < 2 ^ event_bits → u < 2 ^ evaluation_bits → v < 2 ^ evaluation_bits →
    event_row_number c e u ≡ event_row_number d f v → (c ≡ d) × (e ≡ f) × (u ≡ v)
row_injective c d e f u v h g k l q =
    let p : (c * 2 ^ event_bits + e) * 2 ^ evaluation_bits + u ≡ (d * 2 ^ event_bits + f) * 2 ^ evaluation_bits + v = omega arith in
    let a : c * 2 ^ event_bits + e ≡ d * 2 ^ event_bits + f = upper (c * 2 ^ event_bits + e) (d * 2 ^ event_bits + f) u v k l p in
    (omega arith, omega arith, omega arith)
  where
    upper : (x y u v : ℕ) → u < 2 ^ evaluation_bits → v < 2 ^ evaluation_bits → x * 2 ^ evaluation_bits + u ≡ y * 2 ^ evaluation_bits + v → x ≡ y
    upper x y u v h g e = omega arith
