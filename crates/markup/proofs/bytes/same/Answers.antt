use Rattle.std.proofs.Common.{◌∙◌}
use Rattle.laws.proofs.Library.{same_is}
use Rattle.markup.proofs.bytes.same.Goals as goal

pub returns : goal.returns
returns c = c.eq.ensures ∙ same_is _ _
