-- Decimal digits.
use Rattle.std.specs.Prelude.{ℕ, ◌+◌, ◌-◌, ◌*◌, Bool, ◌&&◌, List, [], ◌∷◌, leb}
use Prim.Native.Char.{code}

abbrev pub is_digit : ℕ → Bool
is_digit b = leb (code "0") b && leb b (code "9")

-- the number that digits go on to write after the number n
unfoldable pub decimal_after : ℕ → List ℕ → ℕ
decimal_after n [] = n
decimal_after n (b ∷ l) = decimal_after (n * 10 + (b - code "0")) l

-- the number that digits write
abbrev pub decimal : List ℕ → ℕ
decimal l = decimal_after 0 l
