use Rattle.std.proofs.Common.{refl, arith, rules}
use Rattle.evaluation.specs.InForce.{without}
use Rattle.soundness.proofs.KeyTexts.{date_lt, undated_long, day_refused, day_read}
use Rattle.soundness.proofs.ProbeTexts.{probe_given}
use Rattle.evaluation.proofs.CaseTexts.{taken_told}
use Rattle.evaluation.proofs.EvaluationWays.{says, are_allowed, stands_at, says_undated, says_before, says_fields}
use Rattle.evaluation.proofs.in_force.on_day.Goals as goal

pub returns-then-day-ne10 : goal.returns-then-day-ne10
returns-then-day-ne10 c =
    let reg = c.args.reg.now in
    let x = c.args.texts.now in
    let day = c.args.day.now in
    says reg x.region.now x.asl.now x.date.now x.id.now day (without 30) (says_undated reg x.region.now x.asl.now x.date.now x.id.now day c.args.place c.requires.1 (undated_long day c.if-day-ne10.true)) refl c.requires.0

pub returns-in_default : goal.returns-in_default
returns-in_default c =
    let reg = c.args.reg.now in
    let x = c.args.texts.now in
    let day = c.args.day.now in
    let d = rw c.in_default.is at c.read_date.ensures in
    says reg x.region.now x.asl.now x.date.now x.id.now day (without 30) (says_undated reg x.region.now x.asl.now x.date.now x.id.now day c.args.place c.requires.1 (day_refused day c.if-day-ne10.false d.0)) refl c.requires.0

pub unwrap-probe-requires : goal.unwrap-probe-requires
unwrap-probe-requires c =
    let reg = c.args.reg.now in
    let x = c.args.texts.now in
    probe_given _ _ x.region.now x.asl.now x.date.now x.id.now c.probe_of.ensures (are_allowed reg x.region.now x.asl.now x.date.now x.id.now c.args.day.now c.args.place c.requires.1)

pub returns-then-on-get : goal.returns-then-on-get
returns-then-on-get c =
    let reg = c.args.reg.now in
    let x = c.args.texts.now in
    let day = c.args.day.now in
    let d = day_read day c.if-day-ne10.false _ (rw c.in-Some.is at c.read_date.ensures).0 in
    let k = rw c.unwrap-probe.ensures at c.probe_of.ensures in
    let t = taken_told x.region.now x.asl.now x.date.now x.id.now k.0 _ c.get.result k.1 k.2 c.get.ensures.value in
    says reg x.region.now x.asl.now x.date.now x.id.now day (without 30) (says_before reg x.region.now x.asl.now x.date.now x.id.now day c.args.place c.requires.1 d.0 _ _ d.1 t c.if-on-get.true) refl c.requires.0

pub put_fields-requires : goal.put_fields-requires
put_fields-requires c =
    let reg = c.args.reg.now in
    let x = c.args.texts.now in
    let day = c.args.day.now in
    let d = day_read day c.if-day-ne10.false _ (rw c.in-Some.is at c.read_date.ensures).0 in
    let k = rw c.unwrap-probe.ensures at c.probe_of.ensures in
    (stands_at reg x.region.now x.asl.now x.date.now x.id.now day c.args.place c.requires.1 _ k.2, omega (arith, date_lt day d.0, d.1))

pub returns : goal.returns
returns c =
    let reg = c.args.reg.now in
    let x = c.args.texts.now in
    let day = c.args.day.now in
    let d = day_read day c.if-day-ne10.false _ (rw c.in-Some.is at c.read_date.ensures).0 in
    let k = rw c.unwrap-probe.ensures at c.probe_of.ensures in
    let t = taken_told x.region.now x.asl.now x.date.now x.id.now k.0 _ c.get.result k.1 k.2 c.get.ensures.value in
    says reg x.region.now x.asl.now x.date.now x.id.now day _ (says_fields reg x.region.now x.asl.now x.date.now x.id.now day c.args.place c.requires.1 d.0 _ _ d.1 t _ k.2 (search rules)) refl c.put_fields.ensures
