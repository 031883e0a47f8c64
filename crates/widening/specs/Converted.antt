-- A register in rows of 91 bytes converted (RULES.md, 16 A register converted).
use Rattle.std.specs.Prelude.{ℕ, zero, suc, ◌+◌, ◌-◌, not, cond, ◌||◌, List, [], ◌++◌, ltb, length, take, drop, replicate}
use Rattle.register.specs.Layout.{cases_held, events_held, row_at}
use Rattle.register.specs.RoomAndEmptying.{room}
use Rattle.home_care.specs.Row.{row_bytes, old_bytes, home_care, siad}
use Rattle.soundness.specs.Sound.{is_sound_wide}

-- an answer, and the new register
pub record Conversion : Type 0 where
  pub answer : ℕ
  pub register : List ℕ

-- the rows that the counts tell
abbrev pub rows_held : List ℕ → ℕ
rows_held old = cases_held old + events_held old

-- T4: "each row with five zero bytes behind it": the k rows from row i on
unfoldable pub widened : List ℕ → ℕ → ℕ → List ℕ
widened old i zero = []
widened old i (suc k) =
    take old_bytes (drop (row_at (home_care old_bytes) i) old) ++ (replicate (row_bytes - old_bytes) 0 ++ widened old (suc i) k)

-- T4: "the old one's counts and rows, .., and every other byte of it is zero": in n bytes
abbrev pub in_bytes : ℕ → List ℕ → List ℕ
in_bytes n old = take 4 old ++ (widened old 0 (rows_held old) ++ replicate (n - row_at siad (rows_held old)) 0)

-- T2: "3 where the old one is not sound in rows of 91 bytes"; T3: "33 where the new one has fewer than 4 bytes or less room (R4) than rows stand in the old";
-- T5: "With 3 and with 33 no byte changes"
unfoldable pub converted : List ℕ → List ℕ → Conversion
converted old new =
    cond (not (is_sound_wide old_bytes old)) (record { answer = 3; register = new })
    (cond (ltb (length new) 4 || ltb (room siad (length new)) (rows_held old)) (record { answer = 33; register = new })
    (record { answer = 0; register = in_bytes (length new) old }))
