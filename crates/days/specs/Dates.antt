-- Dates as text (RULES.md, D3: "A date is exactly AAAA-MM-GG, ten bytes, a real day of those, without time zone").
use Rattle.std.specs.Prelude.{ℕ, Bool, cond, ◌&&◌, List, eqb, length, take, drop, get_or}
use Prim.Native.Char.{code}
use Rattle.laws.specs.Decimal.{is_digit, decimal}
use Rattle.laws.specs.Lists.{all}
use Rattle.days.specs.DayNumbers.{day_number, real_day}

-- the year, month and day of a text AAAA-MM-GG
abbrev pub year_text : List ℕ → List ℕ
year_text t = take 4 t

abbrev pub month_text : List ℕ → List ℕ
month_text t = take 2 (drop 5 t)

abbrev pub day_text : List ℕ → List ℕ
day_text t = take 2 (drop 8 t)

-- D3: "exactly AAAA-MM-GG, ten bytes"
abbrev pub has_date_form : List ℕ → Bool
has_date_form t =
    eqb (length t) 10 && (all is_digit (year_text t) && (eqb (get_or t 4 0) (code "-") && (all is_digit (month_text t) && (eqb (get_or t 7 0) (code "-") && all is_digit (day_text t)))))

unfoldable pub is_date : List ℕ → Bool
is_date t = has_date_form t && real_day (decimal (year_text t)) (decimal (month_text t)) (decimal (day_text t))

-- the day number of a date
unfoldable pub day_of : List ℕ → ℕ
day_of t = day_number (decimal (year_text t)) (decimal (month_text t)) (decimal (day_text t))

-- what reading a date answers: the refusal, or the day with what is left
pub data Dated : Type 0 where
  undated : Dated
  dated : ℕ → List ℕ → Dated

-- a date at the front of a list
unfoldable pub date_at : List ℕ → Dated
date_at l = cond (is_date (take 10 l)) (dated (day_of (take 10 l)) (drop 10 l)) undated
