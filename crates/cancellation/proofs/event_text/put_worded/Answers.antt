use Rattle.cancellation.proofs.EventTexts.{put_parts, put_inside, put_nothing}
use Rattle.cancellation.proofs.event_text.put_worded.Goals as goal
use Rattle.cancellation.proofs.event_text.put_worded.Goals.{then-w, else-w}

pub returns : goal.returns
returns c =
    let w = c.args.w.now in
    put_parts w c.args.e
    c.date_of.ensures.0 c.code_of.ensures c.end_of.ensures.0 c.end_of-2.ensures.0
    c.accesses_of.ensures c.accesses_of-2.ensures c.conferma_of.ensures c.conferma_of-2.ensures
    c.put_text-a.ensures c.put_text-b.ensures c.put_attribute-c.ensures
    (rw c.then_some.ensures at c.put_attribute-d.ensures) (rw c.then_some-2.ensures at c.put_attribute-f.ensures)
    (rw c.then_some-3.ensures at c.put_attribute-g.ensures) (rw c.then_some-4.ensures at c.put_attribute-h.ensures)
    c.put_text-i.ensures
    (elim c.if-w.branch [
      | then-w x ↦ rw (x.out-is, x.j-is) (put_inside w.code.now _ x.if-w.true (rw x.code_of-then-w.ensures at x.put_child-j.ensures))
      | else-w x ↦ rw (x.out-is, x.j-is) (put_nothing w.code.now _ x.if-w.false)
    ])
    c.put_end.ensures
