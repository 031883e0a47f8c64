use Rattle.text.proofs.PutLaws.{put_on}
use Rattle.lines.specs.Lines.{standing_line}
use Rattle.lines.proofs.LineLaws.{standing_put}
use Rattle.lines.proofs.standing_line.Goals as goal

pub returns : goal.returns
unfolding standing_line
returns c =
    standing_put c.args.reg.now c.count.ensures c.count-2.ensures (put_on (put_on c.put_named-a.ensures c.put_named-b.ensures) c.put_text.ensures)
