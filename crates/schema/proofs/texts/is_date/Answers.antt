use Rattle.std.proofs.Common.{length}
use borrow.Author.Tests.{ne_eqb}
use Rattle.days.specs.Dates.{is_date}
use Rattle.schema.proofs.texts.is_date.Goals as goal

-- a date is ten bytes
pub returns-else-text-eq10 : goal.returns-else-text-eq10
unfolding is_date
returns-else-text-eq10 c = rw (ne_eqb (length c.args.text.now) 10 c.if-text-eq10.false)
