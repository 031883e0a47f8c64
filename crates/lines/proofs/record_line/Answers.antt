use Rattle.text.proofs.PutLaws.{put_on}
use Rattle.lines.specs.Lines.{record_line}
use Rattle.lines.proofs.record_line.Goals as goal

pub returns : goal.returns
unfolding record_line
returns c = put_on (put_on c.put_decimal-a.ensures c.put_named-b.ensures) c.put_text.ensures
