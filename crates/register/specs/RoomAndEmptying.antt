-- How many rows a register has room for, and a register emptied (RULES.md, R4, R31 and C7).
use Rattle.std.specs.Prelude.{ℕ, ◌-◌, ◌/◌, min, List, length, replicate, cond, ltb}
use Rattle.register.specs.Layout.{Layout}

-- R4: "the smaller of 4,096 and .."
abbrev pub most_rows : ℕ
most_rows = 4096

-- R4: "Room R, which cases and events share, is the smaller of 4,096 and (length - 4) / 96 rounded down"
abbrev pub room : Layout → ℕ → ℕ
room l n = min most_rows ((n - 4) / l.bytes)

-- an answer, and what it comes with
pub record Emptied : Type 0 where
  pub answer : ℕ
  pub register : List ℕ

-- C7: "under 4 bytes it answers 3 and changes nothing, else it answers 0 and leaves every byte zero"
unfoldable pub emptied : List ℕ → Emptied
emptied reg =
    cond (ltb (length reg) 4) (record { answer = 3; register = reg }) (record { answer = 0; register = replicate (length reg) 0 })
