-- What the code holds of a record, of the quarter and of the room, and of two events that clash.
use Rattle.std.specs.Prelude.{ℕ, ◌≡◌, ◌≢◌, Bool, List}
use Rattle.laws.specs.Lists.{any}
use Rattle.register.specs.Search.{probe_key}
use Rattle.home_care.specs.Row.{row_bytes, key_bits, key_number}
use Rattle.home_care.specs.Anomalies.{zero_written, bad_conferma, Context}
use Rattle.home_care.specs.Record.{Head, Admission, Said, event_numbers}
use Rattle.judge.specs.declared.Clash.{Clash}
use Rattle.judge.specs.declared.Clash.TheVariants as x
use Rattle.judge.specs.declared.Limits.{Limits}

abbrev pub context_in : Limits → Context
context_in l = record { first = l.first; last = l.last; room = l.room }

-- what the check of a number asks of two events: 28, or any other number, for one after a conclusion
abbrev pub IsAskedBy : ℕ → Clash → Type 0
IsAskedBy n x.OneKey = n ≡ 22
IsAskedBy n x.SharedDay = n ≡ 26
IsAskedBy n x.TwoConclusions = n ≡ 27
IsAskedBy n x.AfterConclusion = (n ≢ 22) × (n ≢ 26) × (n ≢ 27)

-- the type, the case's key in the first bits of a probe row, the taking in
pub record IsOf (probe : List ℕ) (t day : ℕ) (h : Head) : Type 0 where
  pub key : probe_key row_bytes key_bits probe ≡ key_number h.key
  pub tipo : t ≡ h.tipo
  pub taken : day ≡ h.key.taken

-- the events' 52 bits, and the two tests of reading
pub record IsSaid (evs : List ℕ) (b z : Bool) (es : List Said) : Type 0 where
  pub events : evs ≡ event_numbers es
  pub bad : b ≡ any bad_conferma es
  pub zero : z ≡ any zero_written es

-- the case's birth year and prevalente, and the residence's texts
pub record IsAdmitted (year : ℕ) (main where-region where-asl where-comune where-stato : List ℕ) (a : Admission) : Type 0 where
  pub birth : year ≡ a.case.birth
  pub prevalente : main ≡ a.case.prevalente
  pub region : where-region ≡ a.residence.region
  pub asl : where-asl ≡ a.residence.asl
  pub comune : where-comune ≡ a.residence.comune
  pub stato : where-stato ≡ a.residence.stato
