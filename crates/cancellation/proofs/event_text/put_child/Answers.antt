use Rattle.text.proofs.PutLaws.{put_on}
use Rattle.cancellation.proofs.event_text.put_child.Goals as goal

pub returns : goal.returns
returns c = put_on c.put_text-a.ensures (put_on c.put_text-b.ensures (put_on c.put_text-c.ensures (put_on c.put_decimal-d.ensures c.put_end.ensures)))
