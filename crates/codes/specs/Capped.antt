-- Numbers as large as a reader asks for.
use Rattle.std.specs.Prelude.{ℕ, cond, leb}

-- a number, or the most that is asked for where it is larger
abbrev pub up_to : ℕ → ℕ → ℕ
up_to most n = cond (leb n most) n most
