-- An accepted Rivalutazione with conferma 2, computed: its row keeps the evaluation; varied to conferma 1 it keeps none (RULES.md, R34).
use Prim.Native.Nat.{ℕ}
use Prim.Native.Char.{Char}
use mathlib.Core.Path.{◌≡◌, refl}
use mathlib.Core.Bool.{true, false}
use mathlib.Core.List.{[], ◌∷◌}
use Rattle.laws.specs.Lists.{all, any, same, some_pair, bytes}
use Rattle.codes.specs.CodesAndCharacters.{revaluation}
use Rattle.days.specs.DayNumbers.{first_of, years_to}
use Rattle.model.specs.Map.{find, put, keep, put_all, del_all, any_in, all_in, twice}
use Rattle.model.specs.Checks.{first}
use Rattle.model.specs.Machine.{run, answers}
use Rattle.model.specs.Flow.{State, machine}
use Rattle.rows.specs.Packing.{packs}
use Rattle.home_care.specs.Row.{Evaluation, never, key_number, event_number, evaluation_number, event_row, evaluation_in, evaluation_of}
use Rattle.home_care.specs.Fits.{event_with, evaluation_with}
use Rattle.home_care.specs.Record.{Said, Record, events, event_numbers, padded}
use Rattle.checks.specs.Flow.{case_row, event_rows}
use Rattle.checks.specs.CheckOrder.{siad_machine}
use Rattle.checks.proofs.Worked.{context, key, head, case_said, day}

-- the case stands
abbrev standing : State ℕ ℕ
standing = record { cases = case_row key (case_said "0000") ∷ []; events = [] }

-- 10 May, and what it brings
abbrev number : ℕ → ℕ
number conferma = event_number (event_with revaluation (day 10) 1 never 0 conferma)

abbrev brought : Evaluation
brought = evaluation_with (1 ∷ 2 ∷ 3 ∷ 0 ∷ 1 ∷ 2 ∷ []) (padded (bytes "250"))

abbrev valued : Said
valued = record { event = number 2; valued = true; prevalente = bytes "250"; evaluation = evaluation_number brought }

abbrev confirming : Said
confirming = record { event = number 1; valued = false; prevalente = []; evaluation = 0 }

abbrev send : Char → Said → Record
send tipo e = events (head tipo) (e ∷ [])

abbrev after : ℕ → ℕ → State ℕ ℕ
after conferma v =
    record { cases = case_row key (case_said "0000") ∷ []; events = event_row (key_number key) (number conferma) v ∷ [] }

pub renewed : (answers (siad_machine context) standing (send "I" valued ∷ []) ≡ 0 ∷ []) × (run (siad_machine context) standing (send "I" valued ∷ []) ≡ after 2 (evaluation_number brought))
unfolding run answers machine first find put keep put_all del_all any_in all_in twice event_rows event_numbers all any same some_pair packs years_to first_of
renewed = (refl, refl)

pub reads : evaluation_of (evaluation_in (event_row (key_number key) (number 2) (evaluation_number brought))) ≡ brought
unfolding packs first_of
reads = refl

pub confirmed : run (siad_machine context) standing (send "I" valued ∷ send "V" confirming ∷ []) ≡ after 1 0
unfolding run machine first find put keep put_all del_all any_in all_in twice event_rows event_numbers all any same some_pair packs years_to first_of
confirmed = refl
