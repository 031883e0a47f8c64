use Rattle.std.proofs.Common.{sym, ◌∙◌}
use Rattle.laws.proofs.Library.{any_is}
use Rattle.codes.proofs.Ranges.{singles_are}
use Rattle.codes.proofs.code_lists.one_of.Goals as goal

pub returns : goal.returns
returns c = c.contains.ensures.value ∙ any_is _ _ ∙ sym (singles_are _ _)
