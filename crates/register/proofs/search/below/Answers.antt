use Rattle.std.specs.declared.cmp.Ordering.TheVariants.{Less, Equal, Greater}
use Rattle.register.proofs.Keys.{told_below_lem}
use Rattle.register.proofs.search.below.Goals as goal

pub returns-in-Less : goal.returns-in-Less
returns-in-Less c = told_below_lem _ _ c.args.t c.requires.3 c.compare_row.result Less c.compare_row.ensures c.in-Less.is

pub returns-in-Equal : goal.returns-in-Equal
returns-in-Equal c = told_below_lem _ _ c.args.t c.requires.3 c.compare_row.result Equal c.compare_row.ensures c.in-Equal.is

pub returns-in-Greater : goal.returns-in-Greater
returns-in-Greater c = told_below_lem _ _ c.args.t c.requires.3 c.compare_row.result Greater c.compare_row.ensures c.in-Greater.is
