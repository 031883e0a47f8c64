-- The evaluation in force on a day (RULES.md, 15 The evaluation in force).
use Rattle.std.specs.Prelude.{ℕ, Bool, not, cond, ◌&&◌, List, [], ◌++◌, eqb, leb, replicate}
use Rattle.std.proofs.Math.Option.{Option, none, some}
use Rattle.days.specs.Dates.{is_date, day_of}
use Rattle.model.specs.Map.{Row, last_of, find, has}
use Rattle.model.specs.Flow.{State}
use Rattle.register.specs.State.{state_of}
use Rattle.register.specs.Sound.{events_of}
use Rattle.home_care.specs.Row.{Evaluation, own_evaluation, siad, key_number, case_in, event_number_in, evaluation_in, evaluation_of, evaluates, date_of}
use Rattle.soundness.specs.Sound.{is_sound}
use Rattle.soundness.specs.Finding.{texts_allowed, key_of_texts}

-- N4: "is dated on the day or before it, has conferma 2 and keeps an evaluation"
abbrev pub in_force_by : ℕ → Row ℕ → Bool
in_force_by day r = evaluates (event_number_in r) && (not (eqb (evaluation_in r) 0) && leb (date_of (event_number_in r)) day)

-- N4: "where there is none, the case's own": own is that of the case's row, which stands
abbrev pub own_in : Option ℕ → Evaluation
own_in none = record { scales = []; prevalente = [] }
own_in (some v) = own_evaluation (case_in v)

abbrev pub last_else : Evaluation → Option (Row ℕ) → Evaluation
last_else own none = own
last_else own (some r) = evaluation_of (evaluation_in r)

-- the evaluation of the case c in force on a day: of its rows that pass the last; rows of Rivalutazioni stand in the order of their dates, so that it is the latest
-- (specs/Latest)
abbrev pub in_force : State ℕ ℕ → ℕ → ℕ → Evaluation
in_force s c day = last_else (own_in (find c s.cases)) (last_of (in_force_by day) (events_of siad c s.events))

-- N5: "the six numbers in the order of R16 to R21, then the prevalente's five characters, unused ones 0"
abbrev pub fields_of : Evaluation → List ℕ
fields_of v = v.scales ++ v.prevalente

-- how many they are
abbrev pub field_count : ℕ
field_count = 11

-- an answer, and the fields
pub record Evaluated : Type 0 where
  pub answer : ℕ
  pub fields : List ℕ

-- N6: "With 3 and with 30 all eleven are 0"
abbrev pub without : ℕ → Evaluated
without n = record { answer = n; fields = replicate field_count 0 }

-- N2: "3 for an unsound register"; N3: "30 where the case's texts are not allowed (C13) or it doesn't stand, and where the day is no date by D3 or is before the
-- taking in"
unfoldable pub evaluated : (reg region asl date id day : List ℕ) → Evaluated
evaluated reg region asl date id day =
    let s = state_of siad reg in
    let c = key_number (key_of_texts region asl date id) in
    cond (not (is_sound reg)) (without 3)
    (cond (texts_allowed region asl date id && (has c s.cases && (is_date day && leb (day_of date) (day_of day))))
    (record { answer = 0; fields = fields_of (in_force s c (day_of day)) })
    (without 30))
