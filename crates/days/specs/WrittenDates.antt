-- A day number written as a date (RULES.md, D3: "A date is exactly AAAA-MM-GG, ten bytes").
use Rattle.std.specs.Prelude.{ℕ, zero, suc, ◌+◌, ◌-◌, ◌/◌, ◌%◌, cond, List, [], ◌∷◌, leb}
use Prim.Native.Char.{code}
use Rattle.text.specs.Spelled.{digit}
use Rattle.days.specs.DayNumbers.{first_of}

-- of the months up to k, the last that begins on or before day n
unfoldable pub months_to : ℕ → ℕ → ℕ
months_to zero n = 0
months_to (suc k) n = cond (leb (first_of (suc k)) n) (suc k) (months_to k n)

-- the month of day n, counted from 0, January 1900
abbrev pub month_in : ℕ → ℕ
month_in n = months_to 2399 n

-- the last two digits of a number, the last four, before r
abbrev pub two_digits : ℕ → List ℕ → List ℕ
two_digits n r = digit (n / 10 % 10) ∷ digit (n % 10) ∷ r

abbrev pub four_digits : ℕ → List ℕ → List ℕ
four_digits n r = digit (n / 1000 % 10) ∷ digit (n / 100 % 10) ∷ two_digits n r

-- AAAA-MM-GG
abbrev pub date_spelled : ℕ → ℕ → ℕ → List ℕ
date_spelled y m d = four_digits y (code "-" ∷ two_digits m (code "-" ∷ two_digits d []))

unfoldable pub date_text : ℕ → List ℕ
date_text n = date_spelled (1900 + month_in n / 12) (month_in n % 12 + 1) (n - first_of (month_in n) + 1)
