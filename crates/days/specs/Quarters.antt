-- The declared quarter (RULES.md, D5, D6, F1 and A10).
use Rattle.std.specs.Prelude.{ℕ, ◌-◌, ◌*◌, Bool, ◌&&◌, leb}
use Rattle.days.specs.DayNumbers.{month_length, day_number}

-- D5: "a year from 2009 to 2099 and a quarter from 1 to 4"
abbrev pub is_period : ℕ → ℕ → Bool
is_period y q = (leb 2009 y && leb y 2099) && (leb 1 q && leb q 4)

-- the quarter's first and last day
abbrev pub first_day : ℕ → ℕ → ℕ
first_day y q = day_number y (3 * q - 2) 1

abbrev pub last_day : ℕ → ℕ → ℕ
last_day y q = day_number y (3 * q) (month_length y (3 * q))
