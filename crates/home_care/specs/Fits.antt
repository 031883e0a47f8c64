-- Values that have their fields' sizes, and keys, cases and events of the values that the code holds: what the contracts of packing ask. Rows that have the
-- fields, as bytes: what the contracts of reading ask.
use Rattle.std.specs.Prelude.{ℕ, ◌+◌, ◌*◌, ◌^◌, ◌≤◌, ◌<◌, ◌≡◌, List, length}
use Rattle.model.specs.Map.{Row}
use Rattle.rows.specs.Packing.{each, num, Fit}
use Rattle.register.specs.Layout.{case_rest, event_rest}
use Rattle.register.specs.State.{split, split_by}
use Rattle.home_care.specs.Row.{Key, Case, Event, Evaluation, key_bits, case_bits, home_care, tail_bits_wide, day_bits, char_bits, region_bits, birth_bits, scale_bits, kind_bits, code_bits, accesses_bits, conferma_bits}

-- a key's values have their fields' sizes
pub record KeyFits (k : Key) : Type 0 where
  pub region : k.region < 2 ^ region_bits
  pub asl : Fit (each char_bits k.asl)
  pub asl-length : length k.asl ≡ 3
  pub taken : k.taken < 2 ^ day_bits
  pub id : Fit (each char_bits k.id)
  pub id-length : length k.id ≡ 88

-- a case's values have their fields' sizes
pub record CaseFits (c : Case) : Type 0 where
  pub birth : c.birth < 2 ^ birth_bits
  pub prevalente : Fit (each char_bits c.prevalente)
  pub prevalente-length : length c.prevalente ≡ 5
  pub scales : Fit (each scale_bits c.scales)
  pub scales-length : length c.scales ≡ 6

-- an evaluation's values have their fields' sizes
pub record EvaluationFits (v : Evaluation) : Type 0 where
  pub scales : Fit (each scale_bits v.scales)
  pub scales-length : length v.scales ≡ 6
  pub prevalente : Fit (each char_bits v.prevalente)
  pub prevalente-length : length v.prevalente ≡ 5

-- an event's values have their fields' sizes
pub record EventFits (e : Event) : Type 0 where
  pub kind : e.kind < 2 ^ kind_bits
  pub date : e.date < 2 ^ day_bits
  pub code : e.code < 2 ^ code_bits
  pub end : e.end < 2 ^ day_bits
  pub accesses : e.accesses < 2 ^ accesses_bits
  pub conferma : e.conferma < 2 ^ conferma_bits

-- a key of the values that the code holds
abbrev pub key_with : ℕ → List ℕ → ℕ → List ℕ → Key
key_with region asl taken id = record { region = region; asl = asl; taken = taken; id = id }

-- a case of such values
abbrev pub case_with : ℕ → List ℕ → List ℕ → Case
case_with birth prevalente scales = record { birth = birth; prevalente = prevalente; scales = scales }

-- an evaluation of such values
abbrev pub evaluation_with : List ℕ → List ℕ → Evaluation
evaluation_with scales prevalente = record { scales = scales; prevalente = prevalente }

-- an event of such values
abbrev pub event_with : ℕ → ℕ → ℕ → ℕ → ℕ → ℕ → Event
event_with kind date code end accesses conferma =
    record { kind = kind; date = date; code = code; end = end; accesses = accesses; conferma = conferma }

-- the bits that are read at once (rows/src/reader.rt)
abbrev pub read_bits : ℕ
read_bits = 56

-- w bytes have room for a row's fields but an event's evaluation, a case's being the longer ones, and for no more bits behind an event than are read at once
pub record RowWidth (w : ℕ) : Type 0 where
  pub least : key_bits + case_bits ≤ 8 * w
  pub most : tail_bits_wide w ≤ read_bits

-- the bytes of a row, as a case's and as an event's
abbrev pub as_case : List ℕ → Row ℕ
as_case row = split (case_rest (home_care (length row))) (num row)

abbrev pub as_event : List ℕ → Row ℕ
as_event row = split_by (home_care (length row)).spare (event_rest (home_care (length row))) (num row)
