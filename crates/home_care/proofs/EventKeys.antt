-- An event's own key, the part of its key after its case's: its fields, how two compare by their first bits, and where it stands in a row.
use Prim.Native.Nat.{ℕ, ◌+◌, ◌-◌, ◌*◌, ◌/◌, ◌%◌, ◌^◌, ◌≤◌, ◌<◌}
use mathlib.Core.Path.{◌≡◌, sym, ap, subst, ◌∙◌}
use mathlib.Core.Bool.{Bool, true, false, cond}
use mathlib.Core.Logic.{◌↔◌}
use native.Mathlib.Nat.{mod-lt, div-mul-le_self}
use native.Mathlib.Omega.{arith}
use lib.Dec.{eqb}
use lib.ListN.{drop}
use lib.Pow.{shr_mono, shr-shr, pow_pos}
use borrow.Author.Tests.{eqb-true, eq-eqb, ne_eqb}
use Rattle.laws.proofs.Every.{same_truth}
use Rattle.codes.specs.CodesAndCharacters.{service}
use Rattle.model.specs.Map.{Row}
use Rattle.rows.specs.Packing.{total, field_at}
use Rattle.rows.proofs.Bytes.{lt_of_high}
use Rattle.register.specs.Layout.{event_rest, case_named}
use Rattle.register.specs.State.{unsplit, key_by}
use Rattle.register.specs.Stored.{events, split_of, Sized}
use Rattle.register.proofs.MixedKeys.{number_of, split_by_lem, key_below, key_same}
use Rattle.home_care.specs.Row.{event_widths, event_bits, own_bits, past_own, code_bits, day_bits, kind_bits, siad, home_care, tail_bits_wide, kind_of, date_of, code_of, kind_in, spare_bits, event_number_in_wide, event_key_of}
use Rattle.home_care.specs.EventRows.{own_bits_of}
use Rattle.home_care.specs.Fits.{RowWidth}
use Rattle.home_care.proofs.Laid.{laid_wide, laid_siad}

-- ---- its fields

-- of an event of 52 bits, the kind is that of its own first bits
pub kind_first : (e : ℕ) → e < 2 ^ event_bits → kind_in (e / 2 ^ past_own) ≡ kind_of e
kind_first e h = omega arith

-- kind and date, which stand in front, as a number
abbrev pub dated : ℕ → ℕ
dated e = kind_of e * 2 ^ day_bits + date_of e

key_dated_by : (e : ℕ) (b : Bool) → key_by (cond b 0 code_bits) (e / 2 ^ past_own) / 2 ^ code_bits ≡ dated e
key_dated_by e true = omega arith
key_dated_by e false = omega arith

pub key_dated : (e : ℕ) → event_key_of e / 2 ^ code_bits ≡ dated e
key_dated e = key_dated_by e (eqb (kind_in (e / 2 ^ past_own)) service)

-- the code behind them, or zeros
key_code_by : (e : ℕ) (b : Bool) → key_by (cond b 0 code_bits) (e / 2 ^ past_own) % 2 ^ code_bits ≡ cond b (code_of e) 0
key_code_by e true = omega arith
key_code_by e false = omega arith

pub key_code : (e : ℕ) → e < 2 ^ event_bits → event_key_of e % 2 ^ code_bits ≡ cond (eqb (kind_of e) service) (code_of e) 0
key_code e h = key_code_by e (eqb (kind_in (e / 2 ^ past_own)) service) ∙ ap (λ (k : ℕ). cond (eqb k service) (code_of e) 0) (kind_first e h)

pub own_lt : (e : ℕ) → e < 2 ^ event_bits → event_key_of e < 2 ^ own_bits
own_lt e h = let a = div-mul-le_self (e / 2 ^ past_own) (2 ^ spare_bits (kind_in (e / 2 ^ past_own))) in omega arith

-- how many bits it has, as the code finds it: by the two bits of the kind
pub bits_of : (e kind : ℕ) → kind ≡ field_at (total (drop 1 event_widths)) kind_bits e →
    ((kind ≡ service → own_bits ≡ own_bits_of e) × ((kind ≡ service → ⊥) → own_bits - code_bits ≡ own_bits_of e))
bits_of e kind k =
    let q : kind_in (e / 2 ^ past_own) ≡ kind = omega arith in (
      λ h. ap (λ (b : Bool). own_bits - cond b 0 code_bits) (sym (eq-eqb (kind_in (e / 2 ^ past_own)) service (q ∙ h))),
      λ h. ap (λ (b : Bool). own_bits - cond b 0 code_bits) (sym (ne_eqb (kind_in (e / 2 ^ past_own)) service (λ x. h (sym q ∙ x)))),
    )

-- and the number that it makes of them: nothing is lost at the front
pub key_made : (e bits : ℕ) → e < 2 ^ 64 → bits ≡ own_bits_of e →
    (e / 2 ^ past_own / 2 ^ (own_bits - bits) * 2 ^ (own_bits - bits) % 2 ^ 64 ≡ event_key_of e) × (event_key_of e < 2 ^ (64 - past_own))
key_made e bits h b =
    let s : ℕ = siad.spare (e / 2 ^ past_own) in
    let k : own_bits - bits ≡ s = omega (arith, laid_siad.spare_few (e / 2 ^ past_own)) in
    let l : event_key_of e < 2 ^ (64 - past_own) = let a = div-mul-le_self (e / 2 ^ past_own) (2 ^ s) in omega arith in
    (ap (λ (z : ℕ). e / 2 ^ past_own / 2 ^ z * 2 ^ z % 2 ^ 64) k ∙ mod_small l, l)
  where
    mod_small : {n : ℕ} → n < 2 ^ (64 - past_own) → n % 2 ^ 64 ≡ n
    mod_small h = omega arith

-- ---- by as many bits as a probe's own key has, events compare as their keys do

module _ (a p : ℕ) where
  -- the bits in front of the spare ones
  front : (n : ℕ) → n / 2 ^ (event_bits - own_bits_of p) ≡ n / 2 ^ past_own / 2 ^ siad.spare (p / 2 ^ past_own)
  front n =
      let s : ℕ = siad.spare (p / 2 ^ past_own) in
      let e : event_bits - own_bits_of p ≡ past_own + s = omega (arith, laid_siad.spare_few (p / 2 ^ past_own)) in
      ap (λ (k : ℕ). n / 2 ^ k) e ∙ sym (shr-shr n past_own s)

  pub own_below : (event_key_of a < event_key_of p) ↔ (a / 2 ^ (event_bits - own_bits_of p) < p / 2 ^ (event_bits - own_bits_of p))
  own_below =
      let k = key_below events siad laid_siad (p / 2 ^ past_own) (a / 2 ^ past_own) in
      (λ h. rw (front a, front p) (k.0 h), λ h. k.1 (rw (front a, front p) at h))

  own_same : (event_key_of a ≡ event_key_of p) ↔ (a / 2 ^ (event_bits - own_bits_of p) ≡ p / 2 ^ (event_bits - own_bits_of p))
  own_same =
      let k = key_same events siad laid_siad (p / 2 ^ past_own) (a / 2 ^ past_own) in
      (λ h. rw (front a, front p) (k.0 h), λ h. k.1 (rw (front a, front p) at h))

  -- so one test of these bits serves for the keys
  pub keys_same : (past : ℕ) → past ≡ event_bits - own_bits_of p → eqb (p / 2 ^ past) (a / 2 ^ past) ≡ eqb (event_key_of p) (event_key_of a)
  keys_same past e =
      ap (λ (k : ℕ). eqb (p / 2 ^ k) (a / 2 ^ k)) e
      ∙ same_truth _ _ (λ h. eq-eqb (event_key_of p) (event_key_of a) (sym (own_same.1 (sym (eqb-true _ _ h))))) (λ h. eq-eqb _ _ (sym (own_same.0 (sym (eqb-true (event_key_of p) (event_key_of a) h)))))

  -- where keys rise, first bits do not fall
  pub own_rise : (k : ℕ) → event_key_of a < event_key_of p → a / 2 ^ k ≤ p / 2 ^ k
  own_rise k h =
      let l = lt_of_high a p (event_bits - own_bits_of p) (own_below.0 h) in
      let m : a ≤ p = omega arith in
      shr_mono k m

-- ---- in a row: the case's key, then the event's own

-- the first bits of a row, without its tail: its key
key_first_by : (f : ℕ) (b : Bool) → key_by (cond b 0 code_bits) (f / 2 ^ past_own) ≡ f / 2 ^ event_bits * 2 ^ own_bits + key_by (cond b 0 code_bits) (f % 2 ^ event_bits / 2 ^ past_own)
key_first_by f true = omega arith
key_first_by f false = omega arith

key_first : (f : ℕ) → key_by (spare_bits (kind_in (f / 2 ^ past_own))) (f / 2 ^ past_own) ≡ f / 2 ^ event_bits * 2 ^ own_bits + event_key_of (f % 2 ^ event_bits)
key_first f =
    let k : kind_in (f / 2 ^ past_own) ≡ kind_in (f % 2 ^ event_bits / 2 ^ past_own) = omega arith in
    ap (λ (n : ℕ). key_by (spare_bits n) (f / 2 ^ past_own)) k ∙ key_first_by f (eqb (kind_in (f % 2 ^ event_bits / 2 ^ past_own)) service)

-- the event that is read in a row has 52 bits
pub narrow : (w : ℕ) (r : Row ℕ) → event_number_in_wide w r < 2 ^ event_bits
narrow w r = mod-lt (unsplit (event_rest (home_care w)) r / 2 ^ tail_bits_wide w) (pow_pos event_bits)

module _ (w : ℕ) (h : RowWidth w) where
  -- a row cut behind its key
  pub key_cut : (n : ℕ) → (split_of events (home_care w) n).key ≡ n / 2 ^ tail_bits_wide w / 2 ^ event_bits * 2 ^ own_bits + event_key_of (field_at (tail_bits_wide w) event_bits n)
  key_cut n =
      let e : event_rest (home_care w) ≡ tail_bits_wide w + past_own = omega arith in
      ap (λ (q : ℕ). key_by ((home_care w).spare q) q) (ap (λ (k : ℕ). n / 2 ^ k) e ∙ sym (shr-shr n (tail_bits_wide w) past_own))
      ∙ key_first (n / 2 ^ tail_bits_wide w)

  -- a row's key is that of its case and the own one of its event
  pub cut_parts : (n : ℕ) → (split_of events (home_care w) n).key ≡
      case_named (home_care w) (split_of events (home_care w) n).key * 2 ^ own_bits + event_key_of (event_number_in_wide w (split_of events (home_care w) n))
  cut_parts n =
      let e : ℕ = field_at (tail_bits_wide w) event_bits n in
      let k = key_cut n in
      let l : event_key_of e < 2 ^ own_bits = own_lt e (mod-lt (n / 2 ^ tail_bits_wide w) (pow_pos event_bits)) in
      let c : (split_of events (home_care w) n).key ≡ case_named (home_care w) (split_of events (home_care w) n).key * 2 ^ own_bits + event_key_of e = omega arith in
      c ∙ ap (λ (m : ℕ). case_named (home_care w) (split_of events (home_care w) n).key * 2 ^ own_bits + event_key_of (field_at (tail_bits_wide w) event_bits m)) (sym (number_of events (home_care w) n))

  pub row_parts : (r : Row ℕ) → Sized events (home_care w) r → r.key ≡ case_named (home_care w) r.key * 2 ^ own_bits + event_key_of (event_number_in_wide w r)
  row_parts r s =
      subst (λ (t : Row ℕ). t.key ≡ case_named (home_care w) t.key * 2 ^ own_bits + event_key_of (event_number_in_wide w t))
      (split_by_lem events (home_care w) (laid_wide w h) r s) (cut_parts (unsplit (event_rest (home_care w)) r))
