use mathlib.Core.Path.{◌∙◌, refl}
use native.Mathlib.Omega.{arith}
use Rattle.markup.specs.Elements.{kids}
use Rattle.rows.proofs.Bytes.{fit_of}
use Rattle.judge.specs.View.{context_in}
use Rattle.intake.specs.Taking.{siad_driver}
use Rattle.intake.proofs.Along.{ends_all}
use Rattle.intake.proofs.Going.{going_start, going_end, going_stuck, going_long, going_on}
use Rattle.intake.proofs.SiadDriver.{Kind, siad_keeps, going_next}
use Rattle.intake.proofs.records.take_all.Goals as goal

-- The invariant: the register and the list, moved on by the records ahead, end as all the records do.

pub loop-q-init : goal.loop-q-init
loop-q-init c =
    let k : Kind (context_in c.args.l) c.args.reg.now = record { fit = fit_of 8 c.args.reg.now (λ i. (c.type_inv.reg i).fits); sound = c.requires.1; room_is = c.requires.2 } in
    (refl, refl, λ i w. going_start (siad_keeps c.args.track (context_in c.args.l)) c.args.reg.now c.args.answers.now k c.requires.0.1 w)

pub returns : goal.returns
returns c =
    let k = c.in_default.ensures in
    λ i w. let g = c.loop-q.invariant.2 i w in
    ends_all (siad_driver c.args.track (context_in c.args.l)) c.args.reg.now c.args.answers.now (kids i) (going_end (siad_keeps c.args.track (context_in c.args.l)) g (k.0 _ _ g.holds))

pub record_end-requires : goal.record_end-requires
record_end-requires c = c.top_of-top.ensures.1

pub returns-in_default-record_end : goal.returns-in_default-record_end
returns-in_default-record_end c =
    let k = c.in-Some.ensures in
    let y = c.in_default-record_end.ensures in
    λ i w. let g = c.loop-q.invariant.2 i w in
    let a = k.0 _ _ g.holds in
    going_stuck (siad_keeps c.args.track (context_in c.args.l)) g a (y.0 a.tree a.after a.reads (c.top_of-top.ensures.0 a.tree a.after a.reads).1)

pub take_kid-tally-requires : goal.take_kid-tally-requires
take_kid-tally-requires c =
    let k = c.in-Some.ensures in
    let g = c.loop-q.invariant.2 c.requires.0.0 c.requires.0.1.holds in
    let a = k.0 _ _ g.holds in
    ((a.tree, going_next c.args.track (context_in c.args.l) g a (c.top_of-top.ensures.0 a.tree a.after a.reads).0), g.known.sound, g.known.room_is)

pub loop-q-smaller : goal.loop-q-smaller
loop-q-smaller c = omega (arith, c.in-Some.ensures, c.in-Some-record_end.ensures)

pub loop-q-preserved : goal.loop-q-preserved
loop-q-preserved c =
    let t = c.take_kid-tally in
    let top = c.top_of-top.ensures.0 in
    let j = c.loop-q in
    let m = siad_keeps c.args.track (context_in c.args.l) in
    let k = c.in-Some.ensures in
    let y = c.in-Some-record_end.ensures in
    let g = j.invariant.2 c.requires.0.0 c.requires.0.1.holds in
    let a = k.0 _ _ g.holds in
    let z = going_long m g a (t.ensures a.tree (going_next c.args.track (context_in c.args.l) g a (top a.tree a.after a.reads).0)) in (
      z.0 ∙ j.invariant.0,
      z.1 ∙ j.invariant.1,
      λ i w. let g = j.invariant.2 i w in
          let a = k.0 _ _ g.holds in
          let h = top a.tree a.after a.reads in
          going_on m g a (t.ensures a.tree (going_next c.args.track (context_in c.args.l) g a h.0)) (y.0 a.tree a.after a.reads h.1),
    )
