use Rattle.schema.proofs.Names.{name_part}
use mathlib.Core.Path.{◌∙◌}
use Rattle.schema.proofs.table.Tables.name_of.Goals as goal

pub returns : goal.returns
returns c = c.part.ensures ∙ name_part c.args.self.now.pool.now c.cell-start.ensures c.cell-n.ensures
