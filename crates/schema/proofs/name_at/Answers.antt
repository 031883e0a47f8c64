use Rattle.markup.specs.NamesAndValues.{name}
use Rattle.std.proofs.Common.{◌+◌, arith}
use Rattle.std.proofs.lemmas.List.{drop_all}
use Rattle.schema.proofs.name_at.Goals as goal

pub returns-then-s-at : goal.returns-then-s-at
unfolding name
returns-then-s-at c = (rw (drop_all (c.args.at + 1) c.args.s.now (omega (arith, c.if-s-at.true))), tt)
