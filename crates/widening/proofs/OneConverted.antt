-- A register in rows of 91 bytes converted, computed from its bytes: a case, and a Rivalutazione with conferma 2.
use Prim.Native.Nat.{ℕ, ◌+◌, ◌*◌, ◌^◌}
use Prim.Native.Char.{code}
use mathlib.Core.Path.{◌≡◌, refl}
use mathlib.Core.List.{List, [], ◌∷◌, ◌++◌}
use lib.ListN.{take, drop, replicate}
use Rattle.laws.specs.Lists.{all, any, same, some_pair, bytes}
use Rattle.codes.specs.CodesAndCharacters.{revaluation}
use Rattle.days.specs.DayNumbers.{day_number, first_of, years_to}
use Rattle.model.specs.Map.{find, keep}
use Rattle.rows.specs.Packing.{digits, packs}
use Rattle.rows.proofs.Bytes.{digits_fit}
use Rattle.register.specs.Layout.{row_in, row_at}
use Rattle.register.specs.State.{from}
use Rattle.register.specs.Sound.{ascending}
use Rattle.home_care.specs.Row.{Key, Case, Event, old_bytes, never, anew, siad, case_bits, event_bits, case_zeros_wide, tail_bits_wide, key_number, case_number, event_number}
use Rattle.home_care.specs.Fits.{key_with, case_with, event_with}
use Rattle.home_care.specs.Record.{padded}
use Rattle.widening.specs.Converted.{widened, converted}
use Rattle.widening.specs.Widened.{Widened}
use Rattle.widening.proofs.Kept.{converted_widened}
use Rattle.widening.proofs.WideRows.{fit_both}

abbrev key : Key
key = key_with 10 (bytes "101") (day_number 2018 5 1) (replicate 88 (code "A"))

abbrev case : Case
case = case_with 1940 (padded (bytes "250")) (1 ∷ 2 ∷ 3 ∷ 0 ∷ 1 ∷ 2 ∷ [])

abbrev event : Event
event = event_with revaluation (day_number 2018 5 10) 1 never 0 anew

abbrev case_bytes : List ℕ
case_bytes = digits old_bytes ((key_number key * 2 ^ case_bits + case_number case) * 2 ^ case_zeros_wide old_bytes)

abbrev event_bytes : List ℕ
event_bytes = digits old_bytes ((key_number key * 2 ^ event_bits + event_number event) * 2 ^ tail_bits_wide old_bytes)

abbrev old : List ℕ
old = digits 2 1 ++ (digits 2 1 ++ (case_bytes ++ event_bytes))

-- a new register of n bytes, none of them zero
abbrev fresh : ℕ → List ℕ
fresh n = replicate n 255

-- two rows need 196 bytes
pub one_converted : (converted old (fresh 196)).answer ≡ 0
unfolding converted all any same some_pair row_in from packs first_of years_to ascending find keep
one_converted = refl

pub one_refused : (converted old (fresh 195)).answer ≡ 33
unfolding converted all any same some_pair row_in from packs first_of years_to ascending find keep
one_refused = refl

-- so what is said of converted registers is said of one at least
pub one_widened : Widened old (converted old (fresh 196)).register
one_widened =
    converted_widened old (fresh 196)
    (fit_both (digits 2 1) (digits 2 1 ++ (case_bytes ++ event_bytes)) (digits_fit 2 1)
    (fit_both (digits 2 1) (case_bytes ++ event_bytes) (digits_fit 2 1) (fit_both case_bytes event_bytes (digits_fit old_bytes _) (digits_fit old_bytes _))))
    one_converted

-- the event's row from its kind on
pub event_converted : take 14 (drop (row_at siad 1 + 82) (converted old (fresh 196)).register)
    ≡ 4 ∷ 84 ∷ 110 ∷ 1 ∷ 255 ∷ 255 ∷ 128 ∷ 128 ∷ 0 ∷ 0 ∷ 0 ∷ 0 ∷ 0 ∷ 0 ∷ []
unfolding converted widened all any same some_pair row_in from packs first_of years_to ascending find keep
event_converted = refl
