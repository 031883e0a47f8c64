use Rattle.soundness.proofs.CaseWalk.{row_number}
use Rattle.soundness.proofs.OnePass.{case_out, case_first, case_next}
use Rattle.soundness.proofs.sound.case_fits.Goals as goal

pub returns-then-not-case_row_allowed : goal.returns-then-not-case_row_allowed
returns-then-not-case_row_allowed c =
    case_out c.args.w c.args.reg.now c.row_at.result.now c.args.i _ (row_number _ _ _ _ c.row_at.ensures.0) c.row_at.ensures.1 c.case_row_allowed.ensures (c.if-not-case_row_allowed.true)

pub returns-then-i-eq0 : goal.returns-then-i-eq0
returns-then-i-eq0 c =
    case_first c.args.w c.args.reg.now c.row_at.result.now c.args.i _ (row_number _ _ _ _ c.row_at.ensures.0) c.row_at.ensures.1 c.case_row_allowed.ensures (c.if-not-case_row_allowed.false) c.if-i-eq0.true

pub returns : goal.returns
returns c =
    case_next c.args.w c.args.reg.now c.row_at.result.now c.args.i _ (row_number _ _ _ _ c.row_at.ensures.0) c.row_at.ensures.1 c.case_row_allowed.ensures _ (c.if-not-case_row_allowed.false) c.if-i-eq0.false c.below.ensures
