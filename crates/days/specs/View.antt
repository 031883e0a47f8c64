-- What the code's answers say.
use Rattle.std.specs.Prelude.{ℕ, ◌+◌, ◌<◌, ◌≤◌, ◌≡◌, true, false, cond, List, length, take, drop, Option, None, Some}
use Rattle.laws.specs.Decimal.{decimal}
use Rattle.days.specs.DayNumbers.{day_count}
use Rattle.days.specs.Dates.{year_text, month_text, day_text, is_date, Dated, undated, dated}
use Rattle.days.specs.Quarters.{is_period, first_day, last_day}
use Rattle.days.specs.declared.dates.Date.{Date}
use Rattle.days.specs.declared.dates.Parts.{Parts}
use Rattle.days.specs.declared.quarters.Quarter.{Quarter}

-- the day, and what is left from the next place on
abbrev pub view_date : List ℕ → Option Date → Dated
view_date s (Some d) = dated d.day (drop d.next s)
view_date s None = undated

-- a day that was read has its number, and the next place lies ten bytes on, within the input
abbrev pub ok_date : List ℕ → ℕ → Option Date → Type 0
ok_date s at (Some d) = (d.day < day_count) × (d.next ≡ at + 10) × (d.next ≤ length s)
ok_date s at None = Unit

-- three numbers are the year, month and day of a date that a text is
pub record DateIs (text : List ℕ) (y m d : ℕ) : Type 0 where
  pub date : is_date text ≡ true
  pub year : y ≡ decimal (year_text text)
  pub month : m ≡ decimal (month_text text)
  pub day : d ≡ decimal (day_text text)

-- the parts of the date at a place of a text, or None where there is none
abbrev pub PartsAt : List ℕ → ℕ → Option Parts → Type 0
PartsAt s at (Some p) = DateIs (take 10 (drop at s)) p.year p.month p.day × (at + 10 ≤ length s)
PartsAt s at None = is_date (take 10 (drop at s)) ≡ false

-- F1: the number for each answer
abbrev pub quarter_answer : Option Quarter → ℕ
quarter_answer (Some q) = 0
quarter_answer None = 1

-- the first and the last day of an allowed period
abbrev pub quarter_of : ℕ → ℕ → Option Quarter
quarter_of y q = cond (is_period y q) (Some (record { first = first_day y q; last = last_day y q })) None
