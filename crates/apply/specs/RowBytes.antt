-- The rows that a record stores, in bytes (RULES.md, R6 to R34).
use Rattle.std.specs.Prelude.{ℕ, ◌+◌, ◌*◌, ◌^◌, ◌<◌, ◌≡◌, List, length}
use Rattle.rows.specs.Packing.{digits}
use Rattle.rows.specs.Writer.{so_far, count, Tidy}
use Rattle.rows.specs.declared.writer.Bits.{Bits}
use Rattle.home_care.specs.Row.{Case, row_bytes, key_bits, case_bits, case_number, case_zeros_wide, event_row_number}

-- an event's row: the case's key, the event's 52 bits, its evaluation's 47, zero bits
abbrev pub event_bytes : ℕ → ℕ → ℕ → List ℕ
event_bytes k e v = digits row_bytes (event_row_number k e v)

-- a case's row: its key, the 59 bits of its fields, zero bits
abbrev pub case_bytes : ℕ → Case → List ℕ
case_bytes k c = digits row_bytes ((k * 2 ^ case_bits + case_number c) * 2 ^ case_zeros_wide row_bytes)

-- the writer that has written the key k of the probe
pub record Keyed (probe : List ℕ) (s : Bits) (k : ℕ) : Type 0 where
  pub tidy : Tidy s
  pub bits : count s ≡ key_bits
  pub holds : so_far probe s ≡ k
  pub small : k < 2 ^ key_bits
  pub wide : length probe ≡ row_bytes
