-- A history of submissions to one register (RULES.md, G7: "Records are taken in file order, each judged against the register that the earlier ones left").
use Rattle.std.specs.Prelude.{ℕ, ◌≡◌, ◌↔◌, ◌≢◌, true, false, cond, List, [], ◌∷◌, ◌++◌, map, eqb, length}
use Rattle.std.proofs.Math.Option.{some}
use Rattle.laws.specs.Lists.{any}
use Rattle.model.specs.Map.{find, has, Once}
use Rattle.model.specs.Checks.{Check}
use Rattle.model.specs.Machine.{Machine}
use Rattle.model.specs.Transmission.{is_cancel}
use Rattle.model.specs.Log.{LastIs, at_zeros, calls, Shown, EventStands, carries_away, of_case, Undoes}
use Rattle.model.specs.Flow.{State, Good, Flow, machine}
use Rattle.model.specs.Demands.{after, log}
use Rattle.register.specs.Layout.{case_named}
use Rattle.register.specs.State.{state_of, encode}
use Rattle.register.specs.RoomAndEmptying.{emptied}
use Rattle.home_care.specs.Row.{Event, siad, event_number, key_in, case_in, event_in, event_number_in, evaluation_number, evaluation_in, evaluation_of, evaluates}
use Rattle.home_care.specs.Record.{Head, Admission, Said, Record, admission, events, padded, type_of}
use Rattle.home_care.specs.Allowed.{event_allowed, evaluation_allowed}
use Rattle.home_care.specs.Anomalies.{Context}
use Rattle.tracks.specs.WellRead.{WellScales}
use Rattle.soundness.specs.Sound.{is_sound}
use Rattle.checks.specs.Flow.{flow}
use Rattle.checks.specs.CheckOrder.{checks_of}
use Rattle.intake.specs.FileAnswers.{Call, context_of, submitted}
use Rattle.intake.specs.RecordsIn.{records_in}

-- the register after a call
abbrev pub call : List ℕ → Call → List ℕ
call reg x = (submitted x reg).register

-- a record with the quarter and the room that it is judged in, so that one machine serves the whole history
pub record Entry : Type 0 where
  pub context : Context
  pub said : Record

abbrev pub entry : Context → Record → Entry
entry c r = record { context = c; said = r }

abbrev pub entry_flow : Flow ℕ ℕ Entry
entry_flow =
    record {
      kind = λ e. flow.kind e.said;
      case_rows = λ e. flow.case_rows e.said;
      event_rows = λ e. flow.event_rows e.said;
      away = λ e. flow.away e.said;
    }

abbrev pub entry_checks : Entry → List (Check (State ℕ ℕ))
entry_checks e = checks_of e.context e.said

abbrev pub entry_machine : Machine (State ℕ ℕ) Entry
entry_machine = machine entry_flow entry_checks

-- in a register of n bytes: the records of a file that is taken, none of one that is refused
abbrev pub entries_for : ℕ → State ℕ ℕ → Call → List Entry
entries_for n s x = cond (eqb (submitted x (encode siad n s)).answer 0) (map (entry (context_of x n)) (records_in x)) []

-- the register after a history of calls on an emptied one
abbrev pub reg_after : List ℕ → List Call → List ℕ
reg_after reg xs = calls call (emptied reg).register xs

-- the state that the accepted records of a history leave, and those records
abbrev pub state_after : ℕ → List Call → State ℕ ℕ
state_after n xs = after entry_flow entry_machine (entries_for n) xs

abbrev pub log_of : ℕ → List Call → List Entry
log_of n xs = log entry_flow entry_machine (entries_for n) xs

-- K6: "shows that record's fields": a case's row of the key k, with the rest v, read back, has the key and the fields of the last accepted record of that case
pub record CaseSays (log : List Entry) (k v : ℕ) : Type 0 where
  pub context : Context
  pub head : Head
  pub said : Admission
  pub is_last : LastIs (of_case entry_flow k) log (entry context (admission head said))
  pub keeps : is_cancel (type_of head.tipo) ≡ false
  pub key : key_in k ≡ head.key
  pub fields : case_in v ≡ said.case

-- R32 to R34: an event with conferma 2 keeps six scales and its Prevalente, filled up: an allowed evaluation, so never zeros
pub record Renews (one : Said) : Type 0 where
  pub scales : List ℕ
  pub scaled : WellScales scales
  pub packs : one.evaluation ≡ evaluation_number (record { scales = scales; prevalente = padded one.prevalente })
  pub reads : evaluation_of one.evaluation ≡ record { scales = scales; prevalente = padded one.prevalente }
  pub allowed : evaluation_allowed (evaluation_of one.evaluation) ≡ true
  pub not_zero : one.evaluation ≢ 0

-- an event's row, read back, has the case's key and the fields of one of the events of the last accepted record with its key, after which no accepted
-- cancellation of its case came
pub record EventSays (log : List Entry) (k v : ℕ) : Type 0 where
  pub context : Context
  pub head : Head
  pub said : List Said
  pub is_last : LastIs (λ e. has k (entry_flow.event_rows e)) log (entry context (events head said))
  pub none_later : any (carries_away entry_flow k) is_last.after ≡ false
  pub keeps : is_cancel (type_of head.tipo) ≡ false
  pub before : List Said
  pub one : Said
  pub after : List Said
  pub list : said ≡ before ++ one ∷ after
  -- the fields that this one's 52 bits are of, and no others (`event_injective`)
  pub event : Event
  pub allowed : event_allowed event ≡ true
  pub packs : one.event ≡ event_number event
  pub key : key_in (case_named siad k) ≡ head.key
  pub fields : event_in (event_number_in (record { key = k; val = v })) ≡ event
  -- and the evaluation that this one keeps: whole with conferma 2, zeros with 1 and in other kinds
  pub evaluation : evaluation_in (record { key = k; val = v }) ≡ one.evaluation
  pub renews : evaluates one.event ≡ true → Renews one
  pub zeros : evaluates one.event ≡ false → one.evaluation ≡ 0

-- Demand 3, on the register's bytes
pub record OnBytes (reg : List ℕ) : Type 0 where
  -- accepted is as in demand 2 (K5): a file that is taken adds to the log those of its records whose byte in the call's answer list is 0; a refused one none
  pub log_begins : log_of (length reg) [] ≡ []
  pub log_taken : (xs : List Call) (x : Call) → (submitted x (reg_after reg xs)).answer ≡ 0 →
      log_of (length reg) (xs ++ x ∷ []) ≡
      log_of (length reg) xs ++ map (entry (context_of x (length reg))) (at_zeros (submitted x (reg_after reg xs)).answers (records_in x))
  pub log_refused : (xs : List Call) (x : Call) → (submitted x (reg_after reg xs)).answer ≢ 0 → log_of (length reg) (xs ++ x ∷ []) ≡ log_of (length reg) xs
  pub bytes : (xs : List Call) → reg_after reg xs ≡ encode siad (length reg) (state_after (length reg) xs)
  -- K6: a case or an event stands exactly when "the last accepted record with its key inserts or varies it and, of an event, no accepted cancellation of its
  -- case came later; it shows that record's fields; nothing else stands"
  pub case_stands : (xs : List Call) (k v : ℕ) →
      find k (state_of siad (reg_after reg xs)).cases ≡ some v ↔
      Shown entry_flow.kind (λ e. find k (entry_flow.case_rows e)) (of_case entry_flow k) (log_of (length reg) xs) v
  pub event_stands : (xs : List Call) (k v : ℕ) →
      find k (state_of siad (reg_after reg xs)).events ≡ some v ↔ EventStands entry_flow k (log_of (length reg) xs) v
  pub case_fields_lem : (xs : List Call) (k v : ℕ) → find k (state_of siad (reg_after reg xs)).cases ≡ some v → CaseSays (log_of (length reg) xs) k v
  pub event_fields : (xs : List Call) (k v : ℕ) → find k (state_of siad (reg_after reg xs)).events ≡ some v → EventSays (log_of (length reg) xs) k v
  -- in ascending order, each key once
  pub ascending : (xs : List Call) → Good (state_of siad (reg_after reg xs))
  pub cases_once : (xs : List Call) → Once (state_of siad (reg_after reg xs)).cases
  pub events_once : (xs : List Call) → Once (state_of siad (reg_after reg xs)).events
  -- K7: "Where the same things stand in registers of one length, the bytes are the same"
  pub same_bytes : (other : List ℕ) → length other ≡ length reg → (xs ys : List Call) →
      ((k : ℕ) → find k (state_of siad (reg_after reg xs)).cases ≡ find k (state_of siad (reg_after other ys)).cases) →
      ((k : ℕ) → find k (state_of siad (reg_after reg xs)).events ≡ find k (state_of siad (reg_after other ys)).events) →
      reg_after reg xs ≡ reg_after other ys
  -- K8: "An accepted insertion, followed at once by an accepted cancellation of its keys, gives the earlier bytes back": after any history, whatever is
  -- refused or discarded before, between and behind the two; and among other accepted records, the bytes that are left without the two
  pub undone : (xs ys : List Call) (a b : Entry) → log_of (length reg) (xs ++ ys) ≡ log_of (length reg) xs ++ a ∷ b ∷ [] → Undoes entry_flow a b →
      reg_after reg (xs ++ ys) ≡ reg_after reg xs
  pub undone_among : (xs ys : List Call) (p q : List Entry) (a b : Entry) → log_of (length reg) xs ≡ p ++ a ∷ b ∷ q → log_of (length reg) ys ≡ p ++ q →
      Undoes entry_flow a b → reg_after reg xs ≡ reg_after reg ys
  -- K9: "never answered 3"
  pub sound : (xs : List Call) → is_sound (reg_after reg xs) ≡ true
  pub never_3 : (xs : List Call) (x : Call) → (submitted x (reg_after reg xs)).answer ≢ 3
