-- Two operators on one day, computed: who comes is part of an Erogazione's key, and of no other event's (R9).
use Prim.Native.Nat.{ℕ, ◌^◌, ◌<◌}
use Prim.Native.Char.{code}
use mathlib.Core.Path.{◌≡◌, refl}
use mathlib.Core.List.{List, [], ◌∷◌}
use native.Mathlib.Omega.{arith}
use borrow.Author.Tests.{ltb-true}
use Rattle.laws.specs.Lists.{all, any, same, some_pair}
use Rattle.laws.proofs.Every.{Every}
use Rattle.codes.specs.CodesAndCharacters.{revaluation, service}
use Rattle.days.specs.DayNumbers.{first_of, years_to}
use Rattle.model.specs.Map.{Row, find, put, keep, put_all, del_all, any_in, all_in, twice}
use Rattle.model.specs.Checks.{first}
use Rattle.model.specs.Machine.{run, answers}
use Rattle.model.specs.Flow.{State, machine}
use Rattle.rows.specs.Packing.{packs}
use Rattle.rows.proofs.Bytes.{fit_same}
use Rattle.register.specs.Stored as stored
use Rattle.register.specs.Stored.{Sized}
use Rattle.home_care.specs.Row.{Event, never, key_bits, char_bits, code_bits, event_bits, siad, key_number, event_number, event_row, end_of}
use Rattle.home_care.specs.Fits.{KeyFits, EventFits, event_with}
use Rattle.home_care.specs.Record.{Record, event_numbers}
use Rattle.home_care.proofs.KeyWords.{key_words, rows_words}
use Rattle.home_care.proofs.OldRows.{EndsDeclared}
use Rattle.home_care.proofs.ReadBack.{event_sized}
use Rattle.checks.specs.Flow.{case_row, event_rows}
use Rattle.checks.specs.CheckOrder.{siad_machine}
use Rattle.checks.proofs.Declared.{declared_first, ends_declared}
use Rattle.checks.proofs.Worked.{context, key, head, case_said, day, said, send}

-- a nurse, a physiotherapist, a physician
abbrev nurse : ℕ → Event
nurse d = event_with service (day d) 2 never 1 0

abbrev physio : ℕ → Event
physio d = event_with service (day d) 7 never 1 0

abbrev physician : ℕ → Event
physician d = event_with service (day d) 1 never 1 0

-- a Rivalutazione for that motive, which confirms
abbrev review : ℕ → ℕ → Event
review motive d = event_with revaluation (day d) motive never 0 1

abbrev row : Event → Row ℕ
row e = event_row (key_number key) (event_number e) 0

abbrev standing : List Event → State ℕ ℕ
standing es = record { cases = case_row key (case_said "0000") ∷ []; events = rows es }
  where
    rows : List Event → List (Row ℕ)
    rows [] = []
    rows (e ∷ es) = row e ∷ rows es

abbrev history : List Record
history =
    send "I" (nurse 10 ∷ physio 10 ∷ []) ∷
    send "I" (nurse 10 ∷ []) ∷
    send "I" (physio 11 ∷ physio 11 ∷ []) ∷
    send "V" (physician 10 ∷ []) ∷
    send "C" (physician 10 ∷ []) ∷
    send "I" (review 1 12 ∷ []) ∷
    send "I" (review 2 12 ∷ []) ∷
    send "I" (review 1 13 ∷ review 2 13 ∷ []) ∷
    send "V" (review 2 12 ∷ []) ∷
    send "C" (nurse 10 ∷ []) ∷
    []

-- both stand side by side; the same operator is there twice, another one not at all; a motive is no part of the key
pub answered : answers (siad_machine context) (standing []) history ≡ 0 ∷ 14 ∷ 22 ∷ 15 ∷ 15 ∷ 0 ∷ 14 ∷ 22 ∷ 0 ∷ 0 ∷ []
unfolding answers machine first find put keep put_all del_all any_in all_in twice event_rows event_numbers all any same some_pair packs years_to first_of
answered = refl

-- of the two visits the other is left, and of the review one row, with the later motive
pub left : run (siad_machine context) (standing []) history ≡ standing (review 2 12 ∷ physio 10 ∷ [])
unfolding run machine first find put keep put_all del_all any_in all_in twice event_rows event_numbers all any same some_pair packs years_to first_of
left = refl

-- ---- what is said of keys and of ends, of these

key_fits : KeyFits key
unfolding first_of
key_fits =
    record {
      region = omega arith;
      asl = (omega arith, (omega arith, (omega arith, tt)));
      asl-length = refl;
      taken = omega arith;
      id = fit_same char_bits 88 (code "A") (omega arith);
      id-length = refl;
    }

visit_fits : (code : ℕ) → code < 2 ^ code_bits → EventFits (event_with service (day 10) code never 1 0)
unfolding first_of
visit_fits code h = record { kind = omega arith; date = omega arith; code = h; end = omega arith; accesses = omega arith; conferma = omega arith }

-- two operators, two keys, by what the records say
pub two_keys : (row (nurse 10)).key ≡ (row (physio 10)).key → ⊥
two_keys e =
    let q : ◌≡◌ {A = ℕ} 2 7 = ((key_words key key (nurse 10) (physio 10) 0 0 key_fits key_fits (visit_fits 2 (omega arith)) (visit_fits 7 (omega arith)) (omega arith) (omega arith)).0 e).own.operator refl in
    omega arith

small : key_number key < 2 ^ key_bits
unfolding packs first_of
small = ltb-true (key_number key) (2 ^ key_bits) refl

sized : (e : Event) → event_number e < 2 ^ event_bits → Sized stored.events siad (row e)
sized e h = event_sized (key_number key) (event_number e) 0 h (omega arith) small

-- two motives, one key, by the rows
pub one_key : (row (review 1 12)).key ≡ (row (review 2 12)).key
unfolding packs first_of
one_key =
    (rows_words (row (review 1 12)) (row (review 2 12)) (sized (review 1 12) (omega arith)) (sized (review 2 12) (omega arith))).1
    (refl, record { kind = refl; date = refl; operator = λ h. let z : ◌≡◌ {A = ℕ} 0 1 = h in absurd (omega arith) })

-- the accepted visits have an end as 10 leaves it: none
pub visits_end : Every (λ e. EndsDeclared (end_of e.event)) (said (nurse 10) ∷ said (physio 10) ∷ [])
unfolding first find put keep put_all del_all any_in all_in twice event_rows event_numbers all any same some_pair packs years_to first_of
visits_end = ends_declared context (declared_first 2018 2 refl) (head "I") (said (nurse 10) ∷ said (physio 10) ∷ []) (standing []) refl refl
