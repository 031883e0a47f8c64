-- The lent table of first-of-month day numbers (RULES.md, D4: "a table of the numbers of 2,400 firsts of a month").
use Rattle.std.specs.Prelude.{ℕ, ◌<◌, ◌≡◌, List, get_or}
use Rattle.days.specs.DayNumbers.{first_of}

-- it holds the first day of each month
abbrev pub Firsts : List ℕ → Type 0
Firsts t = (k : ℕ) → k < 2400 → get_or t k 0 ≡ first_of k
