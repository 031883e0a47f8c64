use Rattle.std.proofs.Common.{◌∙◌}
use Rattle.laws.proofs.Library.{same_is}
use Rattle.markup.proofs.bytes.begins.Goals as goal

pub returns : goal.returns
returns c = rw c.rest.ensures at c.starts_with.ensures.value ∙ same_is _ _
