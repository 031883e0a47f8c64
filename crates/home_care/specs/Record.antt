-- What a record says: the fields that are kept or judged (RULES.md, 2 The shape of a record, 4 The register).
use Rattle.std.specs.Prelude.{ℕ, Bool, cond, List, [], ◌∷◌, ◌++◌, take, replicate, eqb}
use Rattle.home_care.specs.Row.{Key, Case}
use Prim.Native.Char.{code}
use Rattle.model.specs.Transmission.{Kind, insert, vary, cancel}

-- what both tracks have: the type I, V or C as its character, and the case's key
pub record Head : Type 0 where
  pub tipo : ℕ
  pub key : Key

-- R15: "unused last characters are 0"
abbrev pub padded : List ℕ → List ℕ
padded t = take 5 (t ++ replicate 5 0)

-- the residence, as it is written; a StatoEstero that is missing is empty
pub record Residence : Type 0 where
  pub region : List ℕ
  pub asl : List ℕ
  pub comune : List ℕ
  pub stato : List ℕ

-- Track 1: birth year, prevalente and the six evaluation fields (R14 to R21), and the residence (A12)
pub record Admission : Type 0 where
  pub case : Case
  pub residence : Residence

-- Track 2: an event's 52 bits, whether it has a Valutazione, that one's prevalente, and the evaluation's 47 bits that are kept of it
pub record Said : Type 0 where
  pub event : ℕ
  pub valued : Bool
  pub prevalente : List ℕ
  pub evaluation : ℕ

pub data Record : Type 0 where
  admission : Head → Admission → Record
  events : Head → List Said → Record

-- the events' 52 bits
unfoldable pub event_numbers : List Said → List ℕ
event_numbers [] = []
event_numbers (e ∷ es) = e.event ∷ event_numbers es

-- the evaluations' 47 bits
unfoldable pub evaluations : List Said → List ℕ
evaluations [] = []
evaluations (e ∷ es) = e.evaluation ∷ evaluations es

-- S11: "`tipo` is I (insertion), V (variation) or C (cancellation)"
abbrev pub type_of : ℕ → Kind
type_of b = cond (eqb b (code "I")) insert (cond (eqb b (code "V")) vary cancel)
