use Rattle.text.proofs.PutLaws.{put_past, put_front}
use native.Mathlib.Omega.{arith}
use Rattle.text.proofs.put_text.Goals as goal

pub returns-then-out-at : goal.returns-then-out-at
returns-then-out-at c = put_past c.args.at c.args.text.now c.args.out.now c.if-out-at.true

pub returns : goal.returns
returns c = put_front c.args.at _ _ c.args.text.now c.args.out.now _ (omega arith) c.min-fits.ensures (omega arith) c.copy_from_slice.ensures.after
