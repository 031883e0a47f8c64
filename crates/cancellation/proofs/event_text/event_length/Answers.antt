use Rattle.std.proofs.Common.{arith}
use Rattle.cancellation.proofs.EventTexts.{names_short, length_told}
use Rattle.cancellation.proofs.event_text.event_length.Goals as goal
use Rattle.cancellation.proofs.event_text.event_length.Goals.{then-w, else-w}

pub returns : goal.returns
returns c =
    let w = c.worded-w in
    let n = names_short c.kind_of.result w.ensures in (
      length_told c.args.e w.result c.kind_of.ensures w.ensures c.code_of.ensures c.digits-code.ensures.0 c.attribute-date.ensures.0
          (rw c.then_some.ensures at c.attribute-given.ensures.0)
          c.end_of.ensures.0 (rw c.then_some-2.ensures at c.attribute-end.ensures.0)
          c.accesses_of.ensures c.accesses_of-2.ensures c.digits.ensures.0 (rw c.then_some-3.ensures at c.attribute-accesses.ensures.0)
          c.conferma_of.ensures c.conferma_of-2.ensures c.digits-2.ensures.0 (rw c.then_some-4.ensures at c.attribute-conferma.ensures.0)
          (elim c.if-w.branch [ then-w x ↦ rw x.if-w.true x.inside-is | else-w x ↦ rw x.if-w.false x.inside-is ]),
      elim c.if-w.branch [ then-w x ↦ omega arith | else-w x ↦ omega arith ],
    )
