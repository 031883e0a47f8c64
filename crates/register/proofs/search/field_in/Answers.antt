use Rattle.register.proofs.Gaps.{field_got}
use Rattle.register.proofs.search.field_in.Goals as goal

pub returns : goal.returns
returns c = field_got c.args.w c.args.i c.args.at c.args.wide c.get.result c.args.reg.now c.requires.0 (rw c.row_at.ensures.0 at c.get.ensures)
