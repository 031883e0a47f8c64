-- What reading guarantees of a record that is of the shape (RULES.md, 2 The shape of a record): its fields' ranges.
use Rattle.std.specs.Prelude.{ℕ, ◌≤◌, ◌<◌, ◌≡◌, Bool, true, false, cond, ◌&&◌, List, [], ◌∷◌, ◌⊎◌, leb, length, get_or}
use Rattle.laws.specs.Decimal.{is_digit, decimal}
use Rattle.laws.specs.Lists.{all}
use Rattle.codes.specs.CodesAndCharacters.{in_ranges, letters, alnums, id_chars, transmissions, regions, residences, revaluation}
use Rattle.days.specs.DayNumbers.{day_count}
use Rattle.markup.specs.Bytes.{in_file, is_text}
use Rattle.home_care.specs.Row.{Key, Case, Event, event_number, evaluation_number, evaluates}
use Rattle.home_care.specs.Allowed.{event_allowed}
use Rattle.home_care.specs.Record.{Head, Residence, Admission, Said, Record, admission, events, padded}

-- so many bytes, all of a set
pub record Spelled (set : ℕ → Bool) (n : ℕ) (t : List ℕ) : Type 0 where
  pub long : length t ≡ n
  pub bytes : all set t ≡ true

-- S12: "Erogatore's region is one of 010, 020, .."; S13: "An ASL has three letters or digits"; S18: "Every date is a date by D3"; S16: "88 characters"
pub record WellKey (k : Key) : Type 0 where
  pub region : in_ranges regions k.region ≡ true
  pub asl : Spelled (in_ranges alnums) 3 k.asl
  pub taken : k.taken < day_count
  pub id : Spelled (in_ranges id_chars) 88 k.id

-- S11: "`tipo` is I (insertion), V (variation) or C (cancellation)"
pub record WellHead (h : Head) : Type 0 where
  pub tipo : in_ranges transmissions h.tipo ≡ true
  pub key : WellKey h.key

-- S15: "A Prevalente has 3 to 5 bytes", "any that a text may hold"
pub record WellPrevalente (t : List ℕ) : Type 0 where
  pub least : 3 ≤ length t
  pub most : length t ≤ 5
  pub bytes : all (λ b. in_file b && is_text b) t ≡ true

-- R16 to R21, R32: six fields up to 3, RischioInfettivo up to 2
pub record WellScales (ss : List ℕ) : Type 0 where
  pub six : length ss ≡ 6
  pub scales : all (λ n. leb n 3) ss ≡ true
  pub last : get_or ss 5 0 ≤ 2

-- S19: "AnnoNascita has four digits"; prevalente padded to five (R15); RischioInfettivo is 0 to 2, the other five 0 to 3, and "0 is missing" (R16)
pub record WellCase (c : Case) : Type 0 where
  pub birth : c.birth < 10000
  pub written : List ℕ
  pub prevalente : WellPrevalente written
  pub fills : c.prevalente ≡ padded written
  pub scaled : WellScales c.scales

-- S12: "a residence's may also be 999"; S13: "An ASL has three letters or digits, a Comune six"; S14: "StatoEstero is two letters of any case or missing"
pub record WellResidence (r : Residence) : Type 0 where
  pub region : Spelled is_digit 3 r.region
  pub listed : in_ranges residences (decimal r.region) ≡ true
  pub asl : Spelled (in_ranges alnums) 3 r.asl
  pub comune : Spelled (in_ranges alnums) 6 r.comune
  pub stato : (r.stato ≡ []) ⊎ Spelled (in_ranges letters) 2 r.stato

pub record WellAdmission (a : Admission) : Type 0 where
  pub case : WellCase a.case
  pub residence : WellResidence a.residence

-- an event's 52 bits are those of an event; only a Rivalutazione has a Valutazione, and only with that there is a prevalente; what is kept of it is the
-- scales and the prevalente, padded, with conferma 2, and else zero
pub record WellSaid (s : Said) : Type 0 where
  pub event : Event
  pub packs : s.event ≡ event_number event
  pub allowed : event_allowed event ≡ true
  pub valued : s.valued ≡ true → (event.kind ≡ revaluation) × WellPrevalente s.prevalente
  pub unvalued : s.valued ≡ false → s.prevalente ≡ []
  pub scales : List ℕ
  pub scaled : WellScales scales
  pub keeps : s.evaluation ≡ cond (evaluates s.event) (evaluation_number (record { scales = scales; prevalente = padded s.prevalente })) 0

abbrev pub WellEach : List Said → Type 0
WellEach [] = Unit
WellEach (s ∷ ss) = WellSaid s × WellEach ss

abbrev pub WellRead : Record → Type 0
WellRead (admission h a) = WellHead h × WellAdmission a
WellRead (events h es) = WellHead h × WellEach es
