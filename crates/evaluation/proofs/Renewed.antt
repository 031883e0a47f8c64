-- An instance: a case taken in on 2018-05-01, with a Rivalutazione of 2018-05-10 that keeps other scales and another prevalente.
use Prim.Native.Nat.{ℕ, ◌*◌, ◌^◌, ◌+◌}
use Prim.Native.Char.{code}
use Prim.Native.String as string
use mathlib.Core.Path.{◌≡◌, refl}
use mathlib.Core.Bool.{true}
use mathlib.Core.List.{List, [], ◌∷◌, ◌++◌}
use lib.ListN.{replicate}
use Rattle.laws.specs.Lists.{all, any, same, some_pair, bytes}
use Rattle.laws.specs.Decimal.{decimal_after}
use Rattle.codes.specs.CodesAndCharacters.{revaluation}
use Rattle.days.specs.DayNumbers.{day_number, first_of, years_to}
use Rattle.days.specs.Dates.{is_date, day_of}
use Rattle.model.specs.Map.{find, keep, last_of}
use Rattle.rows.specs.Packing.{digits, packs}
use Rattle.register.specs.Layout.{row_in}
use Rattle.register.specs.State.{from}
use Rattle.register.specs.Sound.{ascending}
use Rattle.home_care.specs.Row.{Key, Case, Event, Evaluation, row_bytes, never, anew, case_bits, case_zeros_wide, key_number, case_number, event_number, evaluation_number, event_row_number}
use Rattle.home_care.specs.Fits.{key_with, case_with, event_with, evaluation_with}
use Rattle.home_care.specs.Record.{padded}
use Rattle.soundness.specs.Sound.{is_sound}
use Rattle.evaluation.specs.InForce.{Evaluated, without, evaluated}

abbrev key : Key
key = key_with 10 (bytes "101") (day_number 2018 5 1) (replicate 88 (code "A"))

abbrev case : Case
case = case_with 1940 (padded (bytes "250")) (1 ∷ 2 ∷ 3 ∷ 0 ∷ 1 ∷ 2 ∷ [])

-- a Rivalutazione of a day of that month, with a conferma
abbrev renewal : ℕ → ℕ → Event
renewal d conferma = event_with revaluation (day_number 2018 5 d) 1 never 0 conferma

abbrev other : Evaluation
other = evaluation_with (3 ∷ 2 ∷ 1 ∷ 1 ∷ 2 ∷ 0 ∷ []) (padded (bytes "4280"))

abbrev bare : List ℕ
bare = digits row_bytes ((key_number key * 2 ^ case_bits + case_number case) * 2 ^ case_zeros_wide row_bytes)

abbrev row : Event → ℕ → List ℕ
row e v = digits row_bytes (event_row_number (key_number key) (event_number e) v)

-- the register with that event alone
abbrev held : List ℕ
held = digits 2 1 ++ (digits 2 1 ++ (bare ++ row (renewal 10 anew) (evaluation_number other)))

-- and with two more: one of 05-20 that confirms, and one of 05-25 that a conversion left with zeros
abbrev longer : List ℕ
longer =
    digits 2 1 ++ (digits 2 3 ++ (bare ++ (row (renewal 10 anew) (evaluation_number other) ++ (row (renewal 20 1) 0 ++ row (renewal 25 anew) 0))))

-- what is answered for a day
abbrev asked : List ℕ → string.String → Evaluated
asked reg day = evaluated reg (bytes "010") (bytes "101") (bytes "2018-05-01") (replicate 88 (code "A")) (bytes day)

abbrev first : Evaluated
first = record { answer = 0; fields = 1 ∷ 2 ∷ 3 ∷ 0 ∷ 1 ∷ 2 ∷ bytes "250" ++ 0 ∷ 0 ∷ [] }

abbrev second : Evaluated
second = record { answer = 0; fields = 3 ∷ 2 ∷ 1 ∷ 1 ∷ 2 ∷ 0 ∷ bytes "4280" ++ 0 ∷ [] }

pub sound : (is_sound held ≡ true) × (is_sound longer ≡ true)
unfolding is_sound all any same some_pair row_in from packs first_of years_to ascending find keep
sound = (refl, refl)

-- from the taking in on the case's own, from its own day on the other
pub on_each_day : (asked held "2018-05-01" ≡ first) × (asked held "2018-05-09" ≡ first) × (asked held "2018-05-10" ≡ second) × (asked held "2018-05-11" ≡ second)
unfolding evaluated is_date day_of decimal_after is_sound all any same some_pair row_in from packs first_of years_to ascending find keep last_of
on_each_day = (refl, refl, refl, refl)

-- before the taking in, and on no day
pub on_none : (asked held "2018-04-30" ≡ without 30) × (asked held "2018-05-32" ≡ without 30)
unfolding evaluated is_date day_of decimal_after is_sound all any same some_pair row_in from packs first_of years_to ascending find keep last_of
on_none = (refl, refl)

-- N7: "one with conferma 1 is passed over, and one that a conversion left with zeros"
pub passed_over : (asked longer "2018-05-09" ≡ first) × (asked longer "2018-05-20" ≡ second) × (asked longer "2018-05-25" ≡ second) × (asked longer "2099-12-31" ≡ second)
unfolding evaluated is_date day_of decimal_after is_sound all any same some_pair row_in from packs first_of years_to ascending find keep last_of
passed_over = (refl, refl, refl, refl)
