use Rattle.text.proofs.PutLaws.{put_on}
use Rattle.cancellation.proofs.event_text.put_end.Goals as goal

pub returns : goal.returns
returns c = put_on c.put_text-a.ensures (put_on c.put_text-b.ensures c.put_text.ensures)
