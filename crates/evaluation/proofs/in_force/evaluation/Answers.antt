use Rattle.std.proofs.Common.{refl}
use Rattle.std.proofs.lemmas.Result.{err_from_is_err_and}
use Rattle.soundness.specs.View.{number_of}
use Rattle.evaluation.specs.InForce.{without}
use Rattle.evaluation.proofs.EvaluationWays.{says, says_missing}
use Rattle.evaluation.proofs.in_force.evaluation.Goals as goal

pub returns-in_err-place : goal.returns-in_err-place
returns-in_err-place c =
    let p = err_from_is_err_and c.from_residual.result c.from_residual.ensures.1 in
    let reg = c.args.reg.now in
    let x = c.args.texts.now in
    let day = c.args.day.now in
    rw (p.1, p.2) (says reg x.region.now x.asl.now x.date.now x.id.now day (without (number_of c.in_err-place.field-0.0)) (says_missing reg x.region.now x.asl.now x.date.now x.id.now day _ c.in_err-place.ensures) refl refl)
