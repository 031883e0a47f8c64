-- What the code's answers say of a record of the file s.
use Rattle.std.specs.Prelude.{ℕ, ◌+◌, ◌≡◌, cond, ◌||◌, List, ◌++◌, Option, Some, None, map, eqb, length, take, drop, set}
use Rattle.laws.specs.Lists.{any}
use Rattle.markup.specs.Elements.{Tree}
use Rattle.markup.specs.View.{part}
use Rattle.schema.specs.Schema.{Node}
use Rattle.home_care.specs.Record.{Head, Admission, Said}
use Rattle.home_care.specs.Anomalies.{zero_written, bad_conferma}
use Rattle.schemas.specs.Track1.{track1}
use Rattle.schemas.specs.Track2.{track2}
use Rattle.tracks.specs.RecordFields.{said_of, is_event}
use Rattle.tracks.specs.declared.events.EventsRead.{EventsRead}
use Rattle.tracks.specs.declared.events.EventRead.{EventRead}
use Rattle.tracks.specs.declared.record.HeadRead.{HeadRead}
use Rattle.tracks.specs.declared.record.AdmissionRead.{AdmissionRead}

-- the node that a track's records are held against
abbrev pub each_of : ℕ → Node
each_of track = cond (eqb track 1) track1.each track2.each

-- the type and the key: ASL's 3 bytes and Id_Rec's 88 stand at their places
pub record IsHead (s : List ℕ) (r : HeadRead) (h : Head) : Type 0 where
  pub tipo : r.tipo ≡ h.tipo
  pub region : r.region ≡ h.key.region
  pub asl : part s r.asl (r.asl + 3) ≡ h.key.asl
  pub taken : r.day ≡ h.key.taken
  pub id : part s r.id (r.id + 88) ≡ h.key.id

-- the case, and the residence's texts by their places
pub record IsAdmission (s : List ℕ) (r : AdmissionRead) (a : Admission) : Type 0 where
  pub birth : r.birth ≡ a.case.birth
  pub prevalente : r.prevalente ≡ a.case.prevalente
  pub scales : r.scales ≡ a.case.scales
  pub region : part s r.region.start r.region.end ≡ a.residence.region
  pub asl : part s r.asl.start r.asl.end ≡ a.residence.asl
  pub comune : part s r.comune.start r.comune.end ≡ a.residence.comune
  pub stato : part s r.stato.start r.stato.end ≡ a.residence.stato

-- as many numbers as the buffer has room for, then the buffer as it was
abbrev pub laid : List ℕ → List ℕ → List ℕ
laid es b = take (length b) es ++ drop (length es) b

-- the events' 52 bits and their evaluations in order, their number, and the two tests
pub record IsEvents (r : EventsRead) (before after before-kept after_kept : List ℕ) (es : List Said) : Type 0 where
  pub count : r.count ≡ length es
  pub numbers : after ≡ laid (map (λ e. e.event) es) before
  pub evaluations : after_kept ≡ laid (map (λ e. e.evaluation) es) before-kept
  pub bad : r.bad_conferma ≡ any bad_conferma es
  pub zero : r.zero_prevalente ≡ any zero_written es

-- what the code tells of an event
abbrev pub told : Said → EventRead
told e = record { number = e.event; bad_conferma = bad_conferma e; zero_prevalente = zero_written e; evaluation = e.evaluation }

-- and of any child of Eventi
unfoldable pub happened_at : Tree → Option EventRead
happened_at t = cond (is_event t) (Some (told (said_of t))) None

-- what the code has of the events after one more child, and the two buffers; past a buffer's end nothing is kept
abbrev pub counted : Option EventRead → EventsRead → EventsRead
counted (Some e) r =
    record { count = r.count + 1; bad_conferma = r.bad_conferma || e.bad_conferma; zero_prevalente = r.zero_prevalente || e.zero_prevalente }
counted None r = r

abbrev pub kept : Option EventRead → ℕ → List ℕ → List ℕ
kept (Some e) n out = set out n e.number
kept None n out = out

abbrev pub kept_beside : Option EventRead → ℕ → List ℕ → List ℕ
kept_beside (Some e) n out = set out n e.evaluation
kept_beside None n out = out
