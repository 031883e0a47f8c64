use Rattle.std.proofs.Common.{ap, ◌∙◌}
use Rattle.std.specs.Ordering.{is_eq}
use borrow.Author.Tests.{lt-ltb}
use Rattle.register.proofs.Keys.{same_told}
use Rattle.register.proofs.search.stands.Goals as goal

pub returns-then-i-hi : goal.returns-then-i-hi
returns-then-i-hi c = rw (lt-ltb c.args.i c.args.hi c.if-i-hi.true) (c.is_eq.ensures ∙ ap is_eq c.compare_row.ensures ∙ same_told _ _)
