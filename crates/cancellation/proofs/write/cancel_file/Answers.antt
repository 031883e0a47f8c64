use Rattle.std.proofs.Common.{◌≡◌}
use Rattle.std.proofs.lemmas.Result.{err_from_is_err_and}
use Rattle.cancellation.specs.FileText.{case_texts}
use Rattle.cancellation.specs.declared.write.NotWritten.TheVariants.{NoPeriod}
use Rattle.cancellation.proofs.FoundWays.{says_1, says_found}
use Rattle.cancellation.proofs.write.cancel_file.Goals as goal

pub returns-in_err-days : goal.returns-in_err-days
returns-in_err-days c =
    let a = c.args in
    let u = rw c.in_err-days.ensures.ok_part at c.quarter_in.ensures.0 in
    let v = rw c.in_err-days.ensures.ok_part at c.in_err-days.ensures.value in
    let n : c.in_err-days.field-0.0 ≡ NoPeriod = cc in
    let p = err_from_is_err_and c.from_residual.result c.from_residual.ensures.1 in
    rw (p.1, p.2, n) (says_1 a.reg.now (case_texts a.region.now a.asl.now a.date.now a.id.now) a.year a.quarter a.out.now u)

pub returns : goal.returns
returns c =
    let a = c.args in
    let u = rw c.in_ok-days.ensures.ok_part at c.quarter_in.ensures.0 in
    says_found a.reg.now (case_texts a.region.now a.asl.now a.date.now a.id.now) a.year a.quarter a.out.now u c.write_found.ensures
