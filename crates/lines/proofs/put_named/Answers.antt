use Rattle.text.proofs.PutLaws.{put_on}
use Rattle.lines.proofs.put_named.Goals as goal

pub returns : goal.returns
returns c = put_on c.put_text-next.ensures c.put_decimal.ensures
