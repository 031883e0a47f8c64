use Rattle.std.proofs.Common.{◌∙◌}
use Rattle.laws.proofs.Library.{same_is}
use Rattle.home_care.proofs.TextTests.{prevalente_told}
use Rattle.home_care.proofs.texts.prevalente_allowed.Goals as goal

pub returns : goal.returns
returns c = prevalente_told c.args.p.now _ _ _ _ c.text_of-three.ensures c.text_of-four.ensures c.text_of-five.ensures (c.eq-none.ensures ∙ same_is _ _)
