use Rattle.soundness.proofs.ProbeTexts.{probe_given}
use Rattle.cancellation.specs.View.{texts_of}
use Rattle.cancellation.proofs.FoundWays.{are_allowed, are_sized, rows_inside, case_inside, says_chosen}
use Rattle.cancellation.proofs.write.write_found.Goals as goal

pub unwrap-probe-requires : goal.unwrap-probe-requires
unwrap-probe-requires c =
    let x = texts_of c.args.texts.now in
    probe_given _ _ x.region x.asl x.date x.id c.probe_of.ensures (are_allowed c.args.reg.now x c.in_ok-find.ensures)

pub case_events-rows-requires : goal.case_events-rows-requires
case_events-rows-requires c =
    let w = rows_inside c.args.reg.now (texts_of c.args.texts.now) c.in_ok-find.ensures in
    let k = rw c.unwrap-probe.ensures at c.probe_of.ensures in
    (w.0, w.1, k.1)

pub invariant_of-choice : goal.invariant_of-choice
invariant_of-choice c = record { rows_in = case_inside c.args.reg.now (texts_of c.args.texts.now) c.in_ok-find.ensures c.case_events-rows.ensures }

pub write_chosen-requires : goal.write_chosen-requires
write_chosen-requires c =
    let z = are_sized c.args.reg.now (texts_of c.args.texts.now) c.in_ok-find.ensures in
    (z.region, z.asl, z.date, z.id)

pub returns : goal.returns
returns c =
    let k = rw c.unwrap-probe.ensures at c.probe_of.ensures in
    says_chosen c.args.reg.now (texts_of c.args.texts.now) c.in_ok-find.ensures c.case_events-rows.ensures c.args.days.first c.args.days.last c.args.out.now k.2 c.write_chosen.ensures
