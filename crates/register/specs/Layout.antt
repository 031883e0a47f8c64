-- How a register is laid out (RULES.md, 4 The register), for any flow: its rows, its counts, its room, where a row stands.
use Rattle.std.specs.Prelude.{ℕ, ◌-◌, ◌*◌, ◌/◌, ◌^◌, ◌+◌, List, take, drop}
use Rattle.rows.specs.Packing.{num}

-- the bytes of a row, and at its front the bits of a case's key and of an event's longest key; an event's key begins with its case's
pub record Layout : Type 0 where
  pub bytes : ℕ
  pub case_key : ℕ
  pub event_key : ℕ
  -- of the first `event_key` bits of an event's row, as a number: how many at their end don't belong to the event's key
  pub spare : ℕ → ℕ

-- the bits of a row after these
abbrev pub case_rest : Layout → ℕ
case_rest l = 8 * l.bytes - l.case_key

abbrev pub event_rest : Layout → ℕ
event_rest l = 8 * l.bytes - l.event_key

-- the case that an event's key names
abbrev pub case_named : Layout → ℕ → ℕ
case_named l k = k / 2 ^ (l.event_key - l.case_key)

-- R1: "Bytes 0-1 count the cases standing, bytes 2-3 the events, high byte first"
abbrev pub cases_held : List ℕ → ℕ
cases_held reg = num (take 2 reg)

abbrev pub events_held : List ℕ → ℕ
events_held reg = num (take 2 (drop 2 reg))

module _ (l : Layout) where
  -- R2: "row i, from 0, begins at 4 + 96 i"; and its number
  abbrev pub row_at : ℕ → ℕ
  row_at i = 4 + l.bytes * i

  unfoldable pub row_in : List ℕ → ℕ → ℕ
  row_in reg i = num (take l.bytes (drop (row_at i) reg))
