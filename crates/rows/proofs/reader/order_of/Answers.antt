use Rattle.std.proofs.Common.{◌∙◌}
use Rattle.rows.proofs.Ordering.{order_cmp}
use Rattle.rows.proofs.reader.order_of.Goals as goal

pub returns : goal.returns
returns c = c.cmp.ensures ∙ order_cmp _ _
