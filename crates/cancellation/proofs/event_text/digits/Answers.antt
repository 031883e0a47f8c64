use mathlib.Core.Path.{sym}
use Rattle.cancellation.proofs.EventTexts.{one_digit, two_digits, three_digits}
use native.Mathlib.Omega.{arith}
use Rattle.cancellation.proofs.event_text.digits.Goals as goal

pub returns-then-n-lt10 : goal.returns-then-n-lt10
returns-then-n-lt10 c = (sym (one_digit _ c.if-n-lt10.true), omega arith)

pub returns-then-n-lt100 : goal.returns-then-n-lt100
returns-then-n-lt100 c = (sym (two_digits _ c.if-n-lt10.false c.if-n-lt100.true), omega arith)

pub returns : goal.returns
returns c = (sym (three_digits _ c.if-n-lt100.false c.requires), omega arith)
