use Rattle.text.proofs.PutLaws.{put_starts}
use native.Mathlib.Omega.{arith}
use Rattle.lines.proofs.answer.Goals as goal

pub returns : goal.returns
returns c = put_starts c.put_answer.ensures.put (omega (arith, c.put_answer.ensures.short, c.put_answer-arg-1.given.0.1))
