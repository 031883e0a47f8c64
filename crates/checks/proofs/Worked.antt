-- A history over one case's real 662-bit key, computed: the answers that the rules give, and what stands afterwards.
use Prim.Native.Nat.{ℕ, ◌+◌}
use Prim.Native.Char.{Char, code}
use Prim.Native.String as string
use mathlib.Core.Path.{◌≡◌, refl, ap, ◌∙◌}
use mathlib.Core.Bool.{false}
use mathlib.Core.List.{List, [], ◌∷◌, ◌++◌, map, flat_map}
use native.Mathlib.Omega.{arith}
use lib.ListN.{length, replicate}
use Rattle.laws.specs.Lists.{all, any, same, some_pair, bytes}
use Rattle.days.specs.DayNumbers.{first_of, day_number, years_to}
use Rattle.days.specs.Quarters.{first_day, last_day}
use Rattle.model.specs.Map.{find, put, keep, put_all, del_all, any_in, all_in, twice}
use Rattle.model.specs.Checks.{first}
use Rattle.model.specs.Machine.{run, answers}
use Rattle.model.specs.Flow.{State, empty, machine}
use Rattle.model.specs.Log.{sum_of, distinct, at_zeros, accepted_by, events_in, events_out, cases_cancelled, carried_once}
use Rattle.model.proofs.MachineLaws.{taken_answers}
use Rattle.rows.specs.Packing.{packs}
use Rattle.register.specs.Layout.{case_named}
use Rattle.register.specs.Sound.{events_of}
use Rattle.home_care.specs.Row.{Key, Case, Event, never, key_number, event_number, event_row, siad}
use Rattle.home_care.specs.Fits.{event_with}
use Rattle.home_care.specs.Record.{Head, Said, Record, padded, admission, events, event_numbers}
use Rattle.home_care.specs.Anomalies.{Context}
use Rattle.checks.specs.Flow.{flow, case_row, event_rows}
use Rattle.checks.specs.CheckOrder.{siad_machine}

-- quarter 2 of 2018, and room for four rows
abbrev pub context : Context
context = record { first = first_day 2018 2; last = last_day 2018 2; room = 4 }

-- region 010, ASL 101, taken in on 2018-05-01, 88 letters A
abbrev pub key : Key
key = record { region = 10; asl = bytes "101"; taken = day_number 2018 5 1; id = replicate 88 (code "A") }

abbrev pub head : Char → Head
head t = record { tipo = code t; key = key }

-- Track 1: born in 1940, with this prevalente
abbrev pub case_said : string.String → Case
case_said prevalente = record { birth = 1940; prevalente = padded (bytes prevalente); scales = 1 ∷ 2 ∷ 3 ∷ 1 ∷ 2 ∷ 0 ∷ [] }

abbrev case : Char → string.String → Record
case t prevalente =
    admission (head t)
    (record {
      case = case_said prevalente;
      residence = record { region = bytes "010"; asl = bytes "101"; comune = bytes "001001"; stato = [] };
    })

-- Track 2, by days counted from 1 May on
abbrev pub day : ℕ → ℕ
day n = day_number 2018 5 n

abbrev visit : ℕ → ℕ → Event
visit d accesses = event_with 1 (day d) 3 never accesses 0

abbrev suspension : ℕ → ℕ → Event
suspension a b = event_with 2 (day a) 1 (day b) 0 0

abbrev conclusion : ℕ → Event
conclusion d = event_with 3 (day d) 1 never 0 0

abbrev pub said : Event → Said
said e = record { event = event_number e; valued = false; prevalente = []; evaluation = 0 }

abbrev pub send : Char → List Event → Record
send t es = events (head t) (map said es)

abbrev history : List Record
history =
    send "I" (visit 10 1 ∷ []) ∷
    case "I" "000" ∷
    case "I" "0000" ∷
    case "I" "0000" ∷
    send "I" [] ∷
    send "I" (visit 10 1 ∷ []) ∷
    send "I" (visit 10 1 ∷ []) ∷
    send "V" (visit 11 2 ∷ []) ∷
    send "V" (visit 10 2 ∷ []) ∷
    send "I" (suspension 12 14 ∷ []) ∷
    send "I" (suspension 14 20 ∷ []) ∷
    send "I" (suspension 20 18 ∷ []) ∷
    send "I" (conclusion 50 ∷ []) ∷
    send "I" (visit 51 1 ∷ []) ∷
    send "I" (conclusion 49 ∷ []) ∷
    send "I" (visit 62 1 ∷ []) ∷
    send "I" (visit 49 1 ∷ []) ∷
    send "C" (suspension 12 13 ∷ []) ∷
    case "C" "000" ∷
    case "C" "0000" ∷
    send "C" (visit 10 1 ∷ conclusion 50 ∷ []) ∷
    case "C" "0000" ∷
    case "I" "0000" ∷
    send "V" (visit 10 2 ∷ []) ∷
    send "I" (visit 10 1 ∷ []) ∷
    case "C" "0000" ∷
    []

-- the case's cancellation takes its visit and its conclusion along; inserted again it comes back without them: they are inserted, not varied
pub answered : answers (siad_machine context) empty history ≡
    24 ∷ 13 ∷ 0 ∷ 14 ∷ 20 ∷ 0 ∷ 14 ∷ 15 ∷ 0 ∷ 0 ∷ 26 ∷ 23 ∷ 0 ∷ 28 ∷ 27 ∷ 10 ∷ 17 ∷ 0 ∷ 13 ∷ 0 ∷ 24 ∷ 15 ∷ 0 ∷ 15 ∷ 0 ∷ 0 ∷ []
unfolding answers machine first find put keep put_all del_all any_in all_in twice event_rows event_numbers all any same some_pair packs years_to first_of
answered = refl

pub back : run (siad_machine context) empty history ≡ empty
unfolding run machine first find put keep put_all del_all any_in all_in twice event_rows event_numbers all any same some_pair packs years_to first_of
back = refl

-- ---- K2: "counted once for each case"

-- two visits stand
abbrev before : State ℕ ℕ
before =
    record {
      cases = case_row key (case_said "0000") ∷ [];
      events = event_row (key_number key) (event_number (visit 10 1)) 0 ∷ event_row (key_number key) (event_number (visit 11 1)) 0 ∷ [];
    }

pub stood : run (siad_machine context) empty (case "I" "0000" ∷ send "I" (visit 10 1 ∷ visit 11 1 ∷ []) ∷ []) ≡ before
unfolding run machine first find put keep put_all del_all any_in all_in twice event_rows event_numbers all any same some_pair packs years_to first_of
stood = refl

-- and one file cancels their case, inserts it again, cancels it again
abbrev file : List Record
file = case "C" "0000" ∷ case "I" "0000" ∷ case "C" "0000" ∷ []

abbrev accepted : List Record
accepted = accepted_by (siad_machine context) before file

-- each record is accepted, and nothing is left
pub all_zero : answers (siad_machine context) before file ≡ 0 ∷ 0 ∷ 0 ∷ []
unfolding answers machine first find put keep put_all del_all any_in all_in twice event_rows event_numbers all any same some_pair packs years_to first_of
all_zero = refl

pub all_accepted : accepted ≡ file
unfolding at_zeros
all_accepted = taken_answers (siad_machine context) before file [] ∙ ap (λ (ns : List ℕ). at_zeros (ns ++ []) file) all_zero

pub none_left : run (siad_machine context) before file ≡ empty
unfolding run machine first find put keep put_all del_all any_in all_in twice event_rows event_numbers all any same some_pair packs years_to first_of
none_left = refl

-- the two visits once
pub once : carried_once flow (case_named siad) before.events accepted ≡ 2
unfolding sum_of distinct flat_map keep any packs first_of
once = ap (carried_once flow (case_named siad) before.events) all_accepted

-- counted for each cancellation they would be four, and the total wrong
abbrev each_time : List Record → ℕ
each_time log = sum_of (λ c. length (events_of siad c before.events)) (flat_map (cases_cancelled flow) log)

pub each_time_lem : each_time accepted ≡ 4
unfolding sum_of flat_map keep packs first_of
each_time_lem = ap each_time all_accepted

pub not_each_time :
    length (run (siad_machine context) before file).events + (sum_of (events_out flow) accepted + each_time accepted) ≡
    length before.events + sum_of (events_in flow) accepted → ⊥
unfolding sum_of
not_each_time e =
    let gone : length (run (siad_machine context) before file).events ≡ 0 = ap (λ (s : State ℕ ℕ). length s.events) none_left in
    let named : sum_of (events_out flow) accepted ≡ 0 = ap (sum_of (events_out flow)) all_accepted in
    let new : sum_of (events_in flow) accepted ≡ 0 = ap (sum_of (events_in flow)) all_accepted in
    let four = each_time_lem in
    omega arith
