-- Events as they were packed before the code came in front of the end date: such an event is not allowed where it has no end, or one on a day from 2009 to 2099.
-- What stood in the code's place were the end's upper bits, and these are no code.
use Prim.Native.Nat.{ℕ, zero, suc, ◌-◌, ◌/◌, ◌^◌, ◌≤◌, ◌<◌}
use mathlib.Core.Path.{◌≡◌, refl, ap, subst, ◌∙◌}
use mathlib.Core.Bool.{Bool, true, false, ◌&&◌, ◌||◌, and-false}
use mathlib.Core.Logic.{◌⊎◌, inl, inr}
use mathlib.Core.List.{List, [], ◌∷◌}
use native.Mathlib.Omega.{arith}
use lib.Dec.{ltb}
use Rattle.laws.specs.Lists.{all}
use Rattle.laws.proofs.Truth.{and_left, and_right}
use Rattle.codes.specs.CodesAndCharacters.{in_ranges, codes_of}
use Rattle.codes.proofs.Ranges.{ranges_beside}
use Rattle.days.specs.DayNumbers.{day_count, day_number, first_of}
use Rattle.rows.specs.Packing.{Field, fields, packs}
use Rattle.rows.proofs.Packing.{packs_lt}
use Rattle.home_care.specs.Row.{Event, never, kind_bits, day_bits, code_bits, accesses_bits, conferma_bits, event_bits, kind_of, code_of, event_in}
use Rattle.home_care.specs.Fits.{EventFits}
use Rattle.home_care.specs.Allowed.{end_allowed, accesses_allowed, conferma_allowed, event_allowed}

-- kind 2, date 17, end date 17, code 7, accesses 7, conferma 2
abbrev old_fields : Event → List Field
old_fields e =
    fields (kind_bits ∷ day_bits ∷ day_bits ∷ code_bits ∷ accesses_bits ∷ conferma_bits ∷ [])
    (e.kind ∷ e.date ∷ e.end ∷ e.code ∷ e.accesses ∷ e.conferma ∷ [])

abbrev pub old_number : Event → ℕ
old_number e = packs (old_fields e) 0

-- the first day of the first year that can be declared
abbrev pub first_declared : ℕ
first_declared = day_number 2009 1 1

abbrev first_number : ℕ
first_number = 39812

first_is : first_declared ≡ first_number
unfolding first_of
first_is = refl

-- an end that an accepted record can have: none, or a day of a quarter that can be declared
abbrev pub EndsDeclared : ℕ → Type 0
EndsDeclared end = (end ≡ never) ⊎ ((first_declared ≤ end) × (end < day_count))

-- no list has a code from 14 to 96, nor one from 100 on
abbrev gap_first : ℕ
gap_first = 14

abbrev gap_last : ℕ
gap_last = 96

abbrev past_codes : ℕ
past_codes = 100

-- the largest number of a code's bits
abbrev largest : ℕ
largest = 2 ^ code_bits - 1

abbrev besides : ℕ → ℕ → ℕ → Bool
besides lo hi k = all (λ r. ltb r.to lo || ltb hi r.from) (codes_of k)

lists_besides : (k : ℕ) → besides gap_first gap_last k && besides past_codes largest k ≡ true
unfolding all
lists_besides zero = refl
lists_besides (suc zero) = refl
lists_besides (suc (suc zero)) = refl
lists_besides (suc (suc (suc zero))) = refl
lists_besides (suc (suc (suc (suc k)))) = refl

abbrev NoCode : ℕ → Type 0
NoCode n = ((gap_first ≤ n) × (n ≤ gap_last)) ⊎ ((past_codes ≤ n) × (n ≤ largest))

no_code : (k n : ℕ) → NoCode n → in_ranges (codes_of k) n ≡ false
no_code k n (inl h) = ranges_beside (codes_of k) gap_first gap_last n (and_left (besides gap_first gap_last k) (besides past_codes largest k) (lists_besides k)) h.0 h.1
no_code k n (inr h) = ranges_beside (codes_of k) past_codes largest n (and_right (besides gap_first gap_last k) (besides past_codes largest k) (lists_besides k)) h.0 h.1

module _ (e : Event) (f : EventFits e) where
  pub old_lt : old_number e < 2 ^ event_bits
  old_lt = packs_lt (old_fields e) (f.kind, (f.date, (f.end, (f.code, (f.accesses, (f.conferma, tt))))))

  -- in the code's place: the upper bits of the end
  abbrev upper : ℕ
  upper = e.end / 2 ^ (day_bits - code_bits)

  code_there : code_of (old_number e) ≡ upper
  unfolding packs
  code_there = omega (arith, f.kind, f.date, f.end, f.code, f.accesses, f.conferma)

  no_code_there : EndsDeclared e.end → NoCode upper
  no_code_there (inl h) = inr (omega arith, omega arith)
  no_code_there (inr h) =
      let a : first_number ≤ e.end = subst (λ (n : ℕ). n ≤ e.end) first_is h.0 in
      let b = h.1 in
      inl (omega arith, omega arith)

  pub old_refused : EndsDeclared e.end → event_allowed (event_in (old_number e)) ≡ false
  old_refused h =
      let n : ℕ = old_number e in
      let c : in_ranges (codes_of (kind_of n)) (code_of n) ≡ false = ap (in_ranges (codes_of (kind_of n))) code_there ∙ no_code (kind_of n) upper (no_code_there h) in
      let i : Event = event_in n in
      ap (λ (b : Bool). ltb i.date day_count && (end_allowed i && (b && (accesses_allowed i && conferma_allowed i)))) c
      ∙ ap (λ (b : Bool). ltb i.date day_count && b) (and-false (end_allowed i)) ∙ and-false (ltb i.date day_count)
