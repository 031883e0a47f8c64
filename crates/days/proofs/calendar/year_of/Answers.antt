use Rattle.std.proofs.Common.{arith}
use Rattle.days.proofs.Years.{search_start, search_down, search_found, search_end}
use Rattle.days.proofs.calendar.year_of.Goals as goal

pub loop-k-init : goal.loop-k-init
loop-k-init c = search_start _ _ c.min-k.ensures

pub returns-then-first_of-day : goal.returns-then-first_of-day
returns-then-first_of-day c = search_found _ _ _ c.loop-k-test.true c.loop-k.invariant c.first_of.ensures.0 c.if-first_of-day.true

pub loop-k-preserved : goal.loop-k-preserved
loop-k-preserved c = search_down _ _ _ c.loop-k-test.true c.loop-k.invariant c.first_of.ensures.0 c.if-first_of-day.false

pub returns : goal.returns
returns c = search_end _ _ (omega arith) c.loop-k.invariant
