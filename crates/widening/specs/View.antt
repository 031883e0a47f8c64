-- What the code's answers say.
use Rattle.std.specs.Prelude.{ℕ, Result, Ok, Err}
use Rattle.widening.specs.declared.convert.Unconverted.{Unconverted}
use Rattle.widening.specs.declared.convert.Unconverted.TheVariants.{Unsound, TooShort}

-- T2: 3 where the old register is not sound in rows of 91 bytes; T3: 33 where the new one is too short
abbrev pub number_of : Unconverted → ℕ
number_of Unsound = 3
number_of TooShort = 33

-- the number for each answer
abbrev pub answer_of : Result Unit Unconverted → ℕ
answer_of (Ok _) = 0
answer_of (Err reason) = number_of reason
