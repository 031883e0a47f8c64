-- What a case put in does to a register's bytes (RULES.md, 8 What storing does).
use Rattle.std.specs.Prelude.{ℕ, ◌+◌, ◌*◌, ◌^◌, ◌<◌, ◌≡◌, false, List, length}
use Rattle.model.specs.Map.{Row, has, put}
use Rattle.model.specs.Flow.{State}
use Rattle.register.specs.RoomAndEmptying.{room}
use Rattle.register.specs.Stored.{Stored, cases, with_rows}
use Rattle.home_care.specs.Row.{Case, case_number, siad, row_bytes, case_zeros_wide}

-- the row of the case with the key k
abbrev pub row_for : ℕ → Case → Row ℕ
row_for k c = record { key = k; val = case_number c * 2 ^ case_zeros_wide row_bytes }

-- the register b is a with the case: its key stands, or there is room for one row more
abbrev pub CaseIn : ℕ → Case → List ℕ → List ℕ → Type 0
CaseIn k c a b =
    (s : State ℕ ℕ) → Stored siad a s → (has k s.cases ≡ false → length s.cases + length s.events < room siad (length a)) →
    Stored siad b (with_rows cases (put (row_for k c) s.cases) s)
