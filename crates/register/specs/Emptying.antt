-- What emptying a register answers (RULES.md, C7).
use Rattle.std.specs.Prelude.{ℕ, Result, Ok, Err}
use Rattle.register.specs.declared.emptying.TooShort.{TooShort}

-- 0, or 3 for a register too short
abbrev pub answer_of : Result Unit TooShort → ℕ
answer_of (Ok done) = 0
answer_of (Err short) = 3
