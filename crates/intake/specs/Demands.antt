-- What is demanded of one call (RULES.md, 6 Answers for a file, 9 What is conserved).
use Rattle.std.specs.Prelude.{ℕ, ◌+◌, ◌<◌, ◌≡◌, ◌↔◌, ◌≢◌, true, List, length, take, drop, get_or}
use Prim.Native.Char.{code}
use Rattle.markup.specs.NamesAndValues.Read.{read}
use Rattle.markup.specs.Elements.{Tree}
use Rattle.markup.specs.Document.{document}
use Rattle.reading.specs.Places.{place_in}
use Rattle.reading.specs.Everywhere.{ReadAt}
use Rattle.schema.specs.AtFault.{FileFault}
use Rattle.schemas.specs.Schemas.{schema_of}
use Rattle.model.specs.Map.{Once}
use Rattle.model.specs.Checks.{NoneHolds, FirstIs}
use Rattle.model.specs.Log as machine
use Rattle.model.specs.Log.{sum_of, cases_in, cases_out, events_in, events_out, carried_once}
use Rattle.model.specs.Machine.{run}
use Rattle.model.specs.Flow.{State}
use Rattle.model.specs.Demands.{Counted}
use Rattle.register.specs.Layout.{case_named, cases_held, events_held}
use Rattle.register.specs.State.{state_of, encode}
use Rattle.home_care.specs.Row.{siad}
use Rattle.home_care.specs.Record.{Record}
use Rattle.home_care.specs.Anomalies.{Context}
use Rattle.soundness.specs.Sound.{is_sound}
use Rattle.checks.specs.Flow.{flow}
use Rattle.checks.specs.CheckOrder.{checks_of, siad_machine}
use Rattle.intake.specs.FileAnswers.{Call, Submitted, context_of}
use Rattle.intake.specs.RecordsIn.{records_in}

-- Demand 1, G4: "With 1 to 8 all three counts are 0, and no byte of register or answer list changes"; G3: "The record number is 0 but as F6 and F7 say"; of
-- the place G8: "with every other answer it is 0"
pub record Refused (x : Call) (reg : List ℕ) (r : Submitted) : Type 0 where
  pub register : r.register ≡ reg
  pub answers : r.answers ≡ x.answer_list
  pub records : r.records ≡ 0
  pub accepted : r.accepted ≡ 0
  pub discarded : r.discarded ≡ 0
  pub number : r.answer ≢ 6 → r.answer ≢ 7 → r.number ≡ 0
  pub place : r.answer ≢ 6 → r.place ≡ 0

-- G8, of a file that is answered 6: an element of the record named, or that record, or the root; it is read at the place, and `<` stands there
pub record Placed (x : Call) (r : Submitted) : Type 0 where
  pub root : Tree
  pub after : List ℕ
  pub markup : document x.file ≡ read root after
  pub at : Tree
  pub fault : FileFault (schema_of x.track) root r.number at
  pub place : r.place ≡ place_in x.file at
  pub reads : ReadAt x.file at
  pub within : r.place < length x.file
  pub opens : get_or x.file r.place 0 ≡ code "<"

module _ (x : Call) (reg : List ℕ) where
  -- the quarter and the room that the file's records are judged in
  abbrev pub context : Context
  context = context_of x (length reg)

  -- G7: "each judged against the register that the earlier ones left": what the first i records left
  abbrev pub left_by : ℕ → State ℕ ℕ
  left_by i = run (siad_machine context) (state_of siad reg) (take i (records_in x))

  -- what all of them left
  abbrev pub left : State ℕ ℕ
  left = run (siad_machine context) (state_of siad reg) (records_in x)

  -- the records that were accepted
  abbrev pub accepted_in : List Record
  accepted_in = machine.accepted_by (siad_machine context) (state_of siad reg) (records_in x)

  -- Demand 2, of a file that is answered 0
  pub record Answered (r : Submitted) : Type 0 where
    pub records : r.records ≡ length (records_in x)
    -- byte i is 0 exactly when none of the anomalies of record i's track holds, else the number of the first that holds
    pub zero : (d : Record) (i : ℕ) → i < r.records → get_or r.answers i 0 ≡ 0 ↔ NoneHolds (checks_of context (get_or (records_in x) i d)) (left_by i)
    pub other : (d : Record) (i n : ℕ) → i < r.records → n ≢ 0 →
        get_or r.answers i 0 ≡ n ↔ FirstIs (checks_of context (get_or (records_in x) i d)) (left_by i) n
    -- J2: "16 is no longer given": no record's answer is 16
    pub never_16 : (i : ℕ) → i < r.records → get_or r.answers i 0 ≢ 16
    -- G6: "later bytes stay"
    pub long : length r.answers ≡ length x.answer_list
    pub later : drop r.records r.answers ≡ drop r.records x.answer_list
    -- K3: "accepted + discarded = records, and accepted is the zeros of the answer list"
    pub counts : Counted (take r.records r.answers) r.records r.accepted r.discarded
    pub number : r.number ≡ 0
    pub place : r.place ≡ 0
    -- the register's rows are the packed fields of what stands, each key once (R30); nothing else is in its bytes
    pub register : r.register ≡ encode siad (length reg) left
    pub stands : state_of siad r.register ≡ left
    pub cases_once : Once left.cases
    pub events_once : Once left.events
    -- F3: "The register is not sound" can't come of it
    pub sound : is_sound r.register ≡ true

  -- K1: "cases after = cases before + accepted insertions of Track 1 - its accepted cancellations"; K2 likewise by event keys, with "those carried away,
  -- counted once for each case that is cancelled, from the register before the call"; by the register's counts
  pub record Conserved (r : Submitted) : Type 0 where
    pub cases : cases_held r.register + sum_of (cases_out flow) accepted_in ≡ cases_held reg + sum_of (cases_in flow) accepted_in
    pub events : events_held r.register + (sum_of (events_out flow) accepted_in + carried_once flow (case_named siad) (state_of siad reg).events accepted_in) ≡
        events_held reg + sum_of (events_in flow) accepted_in
