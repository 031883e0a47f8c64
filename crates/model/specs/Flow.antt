-- A flow: records that insert, vary or cancel cases and events (RULES.md, 7 Anomalies of a record, 8 What storing does).
use Rattle.std.specs.Prelude.{ℕ, Bool, not, List, []}
use Rattle.model.specs.Map.{Map, keep, Asc, put_all, del_all}
use Rattle.model.specs.Checks.{Check, first}
use Rattle.model.specs.Machine.{Machine}
use Rattle.model.specs.Transmission.{Kind, insert, vary, cancel}

-- R2: "all cases and then all events"
pub record State (F E : Type 0) : Type 0 where
  pub cases : Map F
  pub events : Map E

-- R31: "nothing stands in it"
abbrev pub empty : {F E : Type 0} → State F E
empty = record { cases = []; events = [] }

-- R3: "In each of the two groups the keys ascend strictly"
abbrev pub Good : {F E : Type 0} → State F E → Type 0
Good s = Asc 0 s.cases × Asc 0 s.events

-- of a record: its type of transmission; the case rows and the event rows that it carries; the events that a cancellation carries
-- away besides those that it names
pub record Flow (F E R : Type 0) : Type 0 where
  pub kind : R → Kind
  pub case_rows : R → Map F
  pub event_rows : R → Map E
  pub away : R → ℕ → Bool

-- W1, W2: "puts whole rows in the place of those with their keys"; W3: "takes out the rows with the record's keys, and one of Track 1 all events of its
-- case": those that w tells
abbrev pub applied : {F E : Type 0} → Kind → Map F → Map E → (ℕ → Bool) → State F E → State F E
applied insert cs es w s = record { cases = put_all cs s.cases; events = put_all es s.events }
applied vary cs es w s = record { cases = put_all cs s.cases; events = put_all es s.events }
applied cancel cs es w s = record { cases = del_all cs s.cases; events = keep (λ k. not (w k)) (del_all es s.events) }

module _ {F E R : Type 0} (f : Flow F E R) where
  -- the flow's machine, with the list of checks of each record
  unfoldable pub machine : (R → List (Check (State F E))) → Machine (State F E) R
  machine checks =
      record {
        judge = λ s r. first (checks r) s;
        act = λ s r. applied (f.kind r) (f.case_rows r) (f.event_rows r) (f.away r) s;
      }
