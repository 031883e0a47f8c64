-- THE P CASES HOLD: one computed statement.
use mathlib.Core.Path.{◌≡◌, refl}
use mathlib.Core.Bool.{true}
use Rattle.laws.specs.Decimal.{decimal_after}
use Rattle.laws.specs.Lists.{all, any, same, some_pair}
use Rattle.days.specs.DayNumbers.{first_of, years_to}
use Rattle.days.specs.Dates.{is_date, day_of}
use Rattle.model.specs.Checks.{first}
use Rattle.model.specs.Map.{find, any_in, all_in, put, put_all, keep, twice}
use Rattle.rows.specs.Packing.{packs}
use Rattle.register.specs.State.{from, rows_bytes, encode}
use Rattle.home_care.specs.Record.{event_numbers}
use Rattle.checks.specs.Flow.{event_rows}
use Rattle.register.specs.Layout.{row_in}
use Rattle.register.specs.Sound.{ascending}
use Rattle.soundness.specs.Sound.{is_sound}
use Rattle.cases.specs.Table.{holds, cases}

pub cases_hold : all holds cases ≡ true
unfolding all any same some_pair first find any_in all_in put put_all keep twice rows_bytes encode event_numbers event_rows is_sound ascending from row_in packs is_date day_of decimal_after first_of years_to
cases_hold = refl
