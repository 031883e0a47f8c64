use borrow.Author.Tests.{eq-eqb, ne_eqb}
use Rattle.judge.specs.View.{context_in}
use Rattle.intake.proofs.RecordRead.{same_here, same_took}
use Rattle.intake.proofs.record.take_record.Goals as goal

pub take_admission-requires : goal.take_admission-requires
take_admission-requires c =
    let p = c.requires in
    ((p.0.0, same_here _ 1 (eq-eqb _ 1 c.if-track-eq1.true) p.0.0 p.0.1), p.1, p.2)

pub take_events-requires : goal.take_events-requires
take_events-requires c =
    let p = c.requires in
    ((p.0.0, same_here _ 2 (ne_eqb _ 1 c.if-track-eq1.false) p.0.0 p.0.1), p.1, p.2)

pub returns-then-track-eq1 : goal.returns-then-track-eq1
returns-then-track-eq1 c =
    let e = eq-eqb _ 1 c.if-track-eq1.true in
    λ a x. same_took _ 1 e a (context_in c.args.l) (rw (← c.answer_of.ensures) at (c.take_admission.ensures a (same_here _ 1 e a x)))

pub returns-else-track-eq1 : goal.returns-else-track-eq1
returns-else-track-eq1 c =
    let e = ne_eqb _ 1 c.if-track-eq1.false in
    λ a x. same_took _ 2 e a (context_in c.args.l) (rw (← c.answer_of-else-track-eq1.ensures) at (c.take_events.ensures a (same_here _ 2 e a x)))
