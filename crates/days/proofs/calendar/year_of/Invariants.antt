use mathlib.Core.Path.{◌≡◌}
use Rattle.days.specs.DayNumbers.{years_to}
use Rattle.days.proofs.calendar.year_of.Given as goal

abbrev pub invariant-loop-k : goal.invariant-loop-k
invariant-loop-k l = years_to 199 l.day ≡ years_to l.k l.day
