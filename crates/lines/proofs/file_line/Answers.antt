use Rattle.text.proofs.PutLaws.{put_on}
use Rattle.lines.specs.Lines.{file_line}
use Rattle.lines.proofs.LineLaws.{file_line_short}
use Rattle.lines.proofs.file_line.Goals as goal

pub returns : goal.returns
unfolding file_line
returns c =
    let f = c.ranges in
    record {
      put =
          put_on
          (put_on
          (put_on
          (put_on
          (put_on c.put_named-a.ensures c.put_named-b.ensures)
          c.put_named-c.ensures)
          c.put_named-d.ensures)
          c.put_named-e.ensures)
          c.put_text.ensures;
      short = file_line_short f.answer.fits f.number.fits f.records.fits f.accepted.fits f.discarded.fits;
    }
