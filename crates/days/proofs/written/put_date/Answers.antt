use Rattle.days.proofs.WrittenDates.{month_begun, put_together}
use Rattle.days.proofs.written.put_date.Goals as goal

pub overflow_sub-d : goal.overflow_sub-d
overflow_sub-d c = month_begun c.args.day c.month_in-month.ensures.0 c.first_of.ensures.0

pub returns : goal.returns
returns c =
    rw (put_together c.args.day c.month_in-month.ensures.0 c.first_of.ensures.0
    c.digit_of.ensures c.digit_of-2.ensures c.digit_of-3.ensures c.digit_of-4.ensures
    c.digit_of-5.ensures c.digit_of-6.ensures c.digit_of-7.ensures c.digit_of-8.ensures)
    at c.put_text.ensures
