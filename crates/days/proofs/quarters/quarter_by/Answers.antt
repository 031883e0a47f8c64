use mathlib.Core.Path.{◌≡◌, sym, ◌∙◌}
use mathlib.Core.Bool.{true, false}
use Prim.Native.Nat.{◌*◌}
use Rattle.days.specs.DayNumbers.{real_day}
use Rattle.days.specs.Quarters.{is_period}
use Rattle.days.proofs.Periods.{period, first_real, last_real}
use Rattle.days.proofs.quarters.quarter_by.Goals as goal

pub returns-then-not-is_period : goal.returns-then-not-is_period
returns-then-not-is_period g c =
    let e : is_period c.args.year c.args.quarter ≡ false = sym c.is_period.ensures ∙ c.if-not-is_period.true in
    (rw e, rw e)

pub returns : goal.returns
returns g c =
    let e : is_period c.args.year c.args.quarter ≡ true = sym c.is_period.ensures ∙ c.if-not-is_period.false in
    let p = period c.args.year c.args.quarter e in
    let m = c.month_length.ensures in
    let a = c.requires.numbers _ _ _ _ (first_real c.args.year c.args.quarter p) c.number.ensures in
    let l : real_day c.args.year (3 * c.args.quarter) c.month_length.result ≡ true = rw m (last_real c.args.year c.args.quarter p) in
    let b = c.requires.numbers _ _ _ _ l c.number-2.ensures in
    (rw (e, a, b, m), rw e)
