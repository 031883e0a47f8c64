-- The Gregorian calendar from 1900 on, and day numbers (RULES.md, 3 Day numbers).
use Rattle.std.specs.Prelude.{ℕ, zero, suc, ◌+◌, ◌-◌, ◌*◌, ◌/◌, ◌%◌, Bool, cond, not, ◌&&◌, ◌||◌, [], ◌∷◌, eqb, leb, get_or}

-- every fourth year, but of the hundreds only every fourth
abbrev pub is_leap : ℕ → Bool
is_leap y = eqb (y % 4) 0 && (not (eqb (y % 100) 0) || eqb (y % 400) 0)

-- the days of month m, 1 to 12, of year y; a number that is no month has none
abbrev pub month_length : ℕ → ℕ → ℕ
month_length y m = get_or (0 ∷ 31 ∷ cond (is_leap y) 29 28 ∷ 31 ∷ 30 ∷ 31 ∷ 30 ∷ 31 ∷ 31 ∷ 30 ∷ 31 ∷ 30 ∷ 31 ∷ []) m 0

-- months are counted from 0, January 1900
abbrev pub month_of : ℕ → ℕ → ℕ
month_of y m = 12 * (y - 1900) + (m - 1)

abbrev pub length_of : ℕ → ℕ
length_of k = month_length (1900 + k / 12) (k % 12 + 1)

-- the day number of the first day of month k, D2: "1900-01-01 is day 0"
unfoldable pub first_of : ℕ → ℕ
first_of zero = 0
first_of (suc k) = first_of k + length_of k

-- the day number of day d of month m of year y
abbrev pub day_number : ℕ → ℕ → ℕ → ℕ
day_number y m d = first_of (month_of y m) + (d - 1)

-- D2: "1900-01-01 is day 0 and 2099-12-31 the last"; D3: "a real day of those"
abbrev pub real_day : ℕ → ℕ → ℕ → Bool
real_day y m d = (leb 1900 y && leb y 2099) && ((leb 1 m && leb m 12) && (leb 1 d && leb d (month_length y m)))

-- how many days those are
abbrev pub day_count : ℕ
day_count = 73049

-- of the first k years after 1900, the last that begins on or before day n
unfoldable pub years_to : ℕ → ℕ → ℕ
years_to zero n = 0
years_to (suc k) n = cond (leb (first_of (12 * suc k)) n) (suc k) (years_to k n)

-- the year of day n
abbrev pub year_of : ℕ → ℕ
year_of n = 1900 + years_to 199 n
