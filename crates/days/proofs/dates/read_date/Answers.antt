use Rattle.std.proofs.Common.{refl}
use Rattle.days.proofs.Reading.{parts_real, parts_dated, parts_none}
use Rattle.days.proofs.dates.read_date.Goals as goal

pub returns-in_err-parts : goal.returns-in_err-parts
returns-in_err-parts c = rw c.from_residual.ensures (parts_none c.args.s.now c.args.at c.in_err-parts.ensures, tt)

pub day_number-requires : goal.day_number-requires
day_number-requires c = parts_real c.in_ok-parts.ensures.0

pub returns : goal.returns
returns c =
    let p = c.in_ok-parts.ensures in
    (rw c.day_number.ensures.0 (parts_dated c.args.s.now c.args.at p.0), (c.day_number.ensures.1, refl, p.1))
