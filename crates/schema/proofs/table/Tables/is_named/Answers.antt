use Rattle.std.proofs.Common.{◌∙◌}
use Rattle.laws.proofs.Library.{same_is}
use Rattle.schema.proofs.table.Tables.is_named.Goals as goal

pub returns : goal.returns
returns c = let e = c.eq.ensures ∙ same_is c.name_of.result.now c.args.key.now in rw c.name_of.ensures at e
