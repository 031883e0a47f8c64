use Rattle.text.proofs.PutLaws.{put_on}
use Rattle.cancellation.proofs.records.put_head.Goals as goal

pub returns : goal.returns
returns c =
    put_on c.put_text-a.ensures
    (put_on c.put_text-b.ensures
    (put_on c.put_text-c.ensures
    (put_on c.put_text-d.ensures
    (put_on c.put_text-e.ensures
    (put_on c.put_text-f.ensures
    (put_on c.put_text-g.ensures
    (put_on c.put_text-h.ensures c.put_text.ensures)))))))

pub shape_of-out : goal.shape_of-out
shape_of-out c = (returns c).long
