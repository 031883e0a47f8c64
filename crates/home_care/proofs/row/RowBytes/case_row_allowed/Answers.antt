use mathlib.Core.Path.{◌∙◌, ap}
use Rattle.days.specs.DayNumbers.{year_of}
use Rattle.home_care.specs.Row.{key_in}
use Rattle.home_care.specs.Fits.{as_case}
use Rattle.home_care.proofs.RowFields.{taken_is, taken_day, case_good}
use Rattle.home_care.proofs.row.RowBytes.case_row_allowed.Goals as goal

pub year_of-year-requires : goal.year_of-year-requires
year_of-year-requires c =
    (rw (taken_is c.args.self.bytes.now c.args.self.wide _ c.get-taken.ensures.value) (taken_day c.args.self.bytes.now c.args.self.wide _ c.key_allowed.ensures (c.if-not-key_allowed.false)))

pub returns : goal.returns
returns c =
    case_good c.args.self.bytes.now c.args.self.wide _ _ c.key_allowed.ensures (c.if-not-key_allowed.false)
    (c.rest_allowed.ensures (key_in (as_case c.args.self.bytes.now).key) (c.year_of-year.ensures ∙ ap year_of (taken_is c.args.self.bytes.now c.args.self.wide _ c.get-taken.ensures.value)))
