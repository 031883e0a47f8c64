use mathlib.Core.Path.{sym, ◌∙◌}
use Rattle.std.proofs.Common.{length, ◌+◌, ◌≤◌}
use Rattle.days.proofs.Reading.{date_short, date_undashed, date_unreal, date_real}
use native.Mathlib.Omega.{arith}
use Rattle.days.proofs.dates.date_parts.Goals as goal

pub returns-then-saturating_sub-lt10 : goal.returns-then-saturating_sub-lt10
returns-then-saturating_sub-lt10 c = date_short c.args.s.now c.args.at (omega arith)

pub returns-then-text : goal.returns-then-text
returns-then-text c = date_undashed c.args.s.now c.args.at (omega arith) c.if-text.true

pub returns-then-not-real_day : goal.returns-then-not-real_day
returns-then-not-real_day c =
    date_unreal c.args.s.now c.args.at (omega arith) _ _ _ c.digits-year.ensures.0 c.digits-month.ensures.0 c.digits-day.ensures.0 (sym c.real_day.ensures ∙ c.if-not-real_day.true)

pub returns : goal.returns
returns c =
    let fits : c.args.at + 10 ≤ length c.args.s.now = omega arith in
    (date_real c.args.s.now c.args.at fits _ _ _ c.digits-year.ensures.0 c.digits-month.ensures.0 c.digits-day.ensures.0 c.if-text.false (sym c.real_day.ensures ∙ c.if-not-real_day.false), fits)
