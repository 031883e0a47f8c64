-- The home-care flow: what a record inserts, varies or cancels (RULES.md, 4 The register, 8 What storing does).
use Rattle.std.specs.Prelude.{ℕ, ◌-◌, ◌*◌, ◌^◌, Bool, false, List, [], ◌∷◌, eqb}
use Rattle.model.specs.Map.{Row, Map}
use Rattle.model.specs.Flow.{State, Flow, applied}
use Rattle.register.specs.Layout.{case_rest, case_named}
use Rattle.home_care.specs.Row.{Key, Case, case_bits, key_number, case_number, siad, event_row}
use Rattle.home_care.specs.Record.{Head, Said, Record, admission, events, type_of}

abbrev pub head_in : Record → Head
head_in (admission h a) = h
head_in (events h es) = h

-- the row of a case: the key, the fields, zero bits
abbrev pub case_row : Key → Case → Row ℕ
case_row k c = record { key = key_number k; val = case_number c * 2 ^ (case_rest siad - case_bits) }

-- the rows of the events of the case c
unfoldable pub event_rows : ℕ → List Said → Map ℕ
event_rows c [] = []
event_rows c (e ∷ es) = event_row c e.event e.evaluation ∷ event_rows c es

abbrev pub case_rows_in : Record → Map ℕ
case_rows_in (admission h a) = case_row h.key a.case ∷ []
case_rows_in (events h es) = []

abbrev pub event_rows_in : Record → Map ℕ
event_rows_in (admission h a) = []
event_rows_in (events h es) = event_rows (key_number h.key) es

-- W3: an accepted cancellation of Track 1 takes along "all events of its case", whatever their dates; one of Track 2 nothing but what it names
abbrev pub away_with : Record → ℕ → Bool
away_with (admission h a) k = eqb (case_named siad k) (key_number h.key)
away_with (events h es) k = false

abbrev pub flow : Flow ℕ ℕ Record
flow = record { kind = λ r. type_of (head_in r).tipo; case_rows = case_rows_in; event_rows = event_rows_in; away = away_with }

-- the state that a record would leave
abbrev pub next : Record → State ℕ ℕ → State ℕ ℕ
next r s = applied (flow.kind r) (flow.case_rows r) (flow.event_rows r) (flow.away r) s
