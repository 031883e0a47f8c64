use Rattle.std.proofs.Common.{sym, ◌∙◌}
use Rattle.soundness.proofs.KeyTexts.{region_good}
use Rattle.soundness.proofs.find.region_of.Goals as goal

pub returns-then-read : goal.returns-then-read
returns-then-read c = region_good c.args.s.now c.if-s-ne3.false (sym c.read_digits-read.ensures.1 ∙ c.if-read.true) c.read_digits-read.ensures.0
