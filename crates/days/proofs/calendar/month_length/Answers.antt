use Rattle.days.proofs.calendar.month_length.Goals as goal

pub returns-then-is_leap : goal.returns-then-is_leap
returns-then-is_leap c = rw (c.if-m-eq2.true, ← c.is_leap.ensures, c.if-is_leap.true)

pub returns-then-m-eq2 : goal.returns-then-m-eq2
returns-then-m-eq2 c = rw (c.if-m-eq2.true, ← c.is_leap.ensures, c.if-is_leap.false)
