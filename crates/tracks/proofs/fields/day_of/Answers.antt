use mathlib.Core.Path.{◌∙◌}
use Rattle.tracks.proofs.Written.{date_parts, real_read, day_read}
use native.Mathlib.Omega.{arith}
use Rattle.tracks.proofs.fields.day_of.Goals as goal

pub slice_bounds-number-end : goal.slice_bounds-number-end
slice_bounds-number-end c = let d = date_parts c.args.x.now c.requires in omega (arith, d.long)

pub number-year-requires : goal.number-year-requires
number-year-requires c = let d = date_parts c.args.x.now c.requires in d.year

pub overflow_cast-year : goal.overflow_cast-year
overflow_cast-year c = let d = date_parts c.args.x.now c.requires in record { fits = omega (arith, c.number-year.ensures, d.year.small) }

pub slice_bounds-number-end-2 : goal.slice_bounds-number-end-2
slice_bounds-number-end-2 c = let d = date_parts c.args.x.now c.requires in omega (arith, d.long)

pub number-month-requires : goal.number-month-requires
number-month-requires c = let d = date_parts c.args.x.now c.requires in d.month

pub overflow_cast-month : goal.overflow_cast-month
overflow_cast-month c = let d = date_parts c.args.x.now c.requires in record { fits = omega (arith, c.number-month.ensures, d.month.small) }

pub slice_bounds-number-end-3 : goal.slice_bounds-number-end-3
slice_bounds-number-end-3 c = let d = date_parts c.args.x.now c.requires in omega (arith, d.long)

pub number-day-requires : goal.number-day-requires
number-day-requires c = let d = date_parts c.args.x.now c.requires in d.day

pub overflow_cast-day : goal.overflow_cast-day
overflow_cast-day c = let d = date_parts c.args.x.now c.requires in record { fits = omega (arith, c.number-day.ensures, d.day.small) }

pub day_number-requires : goal.day_number-requires
day_number-requires c =
    let d = date_parts c.args.x.now c.requires in real_read _ d c.number-year.ensures c.number-month.ensures c.number-day.ensures

pub overflow_cast-result : goal.overflow_cast-result
overflow_cast-result c = record { fits = omega (arith, c.day_number.ensures.1) }

pub returns : goal.returns
returns c =
    let d = date_parts c.args.x.now c.requires in (c.day_number.ensures.0 ∙ day_read _ d c.number-year.ensures c.number-month.ensures c.number-day.ensures, c.day_number.ensures.1)
