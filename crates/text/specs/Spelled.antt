-- A number's decimal digits, without leading zeros: 0 is "0".
use Rattle.std.specs.Prelude.{ℕ, zero, suc, ◌+◌, ◌/◌, ◌%◌, cond, List, [], ◌∷◌, ◌++◌, ltb}
use Prim.Native.Char.{code}

-- the digit of a number below 10
abbrev pub digit : ℕ → ℕ
digit n = code "0" + n

-- of a number below 10 its digit; else the digits of its tens, and its last one. In at most so many steps
unfoldable pub spelled_in : ℕ → ℕ → List ℕ
spelled_in zero n = []
spelled_in (suc k) n = cond (ltb n 10) (digit n ∷ []) (spelled_in k (n / 10) ++ (digit (n % 10) ∷ []))

-- n + 1 steps suffice: the tens are fewer than n
unfoldable pub spelled : ℕ → List ℕ
spelled n = spelled_in (suc n) n

-- a number of 64 bits has no more digits
abbrev pub most_digits : ℕ
most_digits = 20
