use Rattle.std.proofs.Common.{rules}
use mathlib.Core.Path.{refl}
use Rattle.std.proofs.lemmas.Result.{err_from_is_err_and}
use Rattle.rows.proofs.Bytes.{fit_of}
use Rattle.judge.specs.View.{context_in}
use Rattle.intake.proofs.RecordRead.{of_shape}
use Rattle.intake.proofs.RecordTaken.{rows_within, never_0}
use Rattle.intake.proofs.CaseTaken.{case_ways}
use Rattle.intake.proofs.track1.take_admission.Goals as goal

-- What was read and judged, told once from the place after it.

pub heading-h-requires : goal.heading-h-requires
heading-h-requires c = (1, c.requires.0.0, c.requires.0.1)

pub admission-a-requires : goal.admission-a-requires
admission-a-requires c = (c.requires.0.0, of_shape c.requires.0.1)

pub judge_admission-requires : goal.judge_admission-requires
judge_admission-requires c =
    let w = rows_within c.args.reg.now c.requires.1 in
    (c.heading-h.ensures.1, w.0, w.1)

pub returns-in_err-judge_admission : goal.returns-in_err-judge_admission
returns-in_err-judge_admission c =
    let r = c.args.reg.now in
    let h = c.heading-h in
    let m = c.admission-a in
    let p = err_from_is_err_and c.from_residual.result c.from_residual.ensures.1 in
    λ a x. rw (p.1, p.2) ((case_ways c.args.s.now c.args.top m.result m.ensures a x h.result.tipo h.result.taken h.result.probe (h.ensures.0 1 a x) _ _ _ _
    c.part.ensures c.part-2.ensures c.part-3.ensures c.part-4.ensures r (fit_of 8 r (λ i. (c.slice_known-1.given i).fits)) c.requires.1 (context_in c.args.l) _ c.in_err-judge_admission.ensures).discarded (never_0 _))

pub apply_case-requires : goal.apply_case-requires
apply_case-requires c =
    let r = c.args.reg.now in
    let h = c.heading-h in
    let m = c.admission-a in
    let a = c.requires.0.0 in
    let x = c.requires.0.1 in (
      search rules,
      (case_ways c.args.s.now c.args.top m.result m.ensures a x h.result.tipo h.result.taken h.result.probe (h.ensures.0 1 a x) _ _ _ _
          c.part.ensures c.part-2.ensures c.part-3.ensures c.part-4.ensures r (fit_of 8 r (λ i. (c.slice_known-1.given i).fits)) c.requires.1 (context_in c.args.l) 0 c.in_ok-judge_admission.ensures).fits refl,
    )

pub returns : goal.returns
returns c =
    let r = c.args.reg.now in
    let h = c.heading-h in
    let m = c.admission-a in
    let y = c.apply_case.ensures in
    λ a x. (case_ways c.args.s.now c.args.top m.result m.ensures a x h.result.tipo h.result.taken h.result.probe (h.ensures.0 1 a x) _ _ _ _
    c.part.ensures c.part-2.ensures c.part-3.ensures c.part-4.ensures r (fit_of 8 r (λ i. (c.slice_known-1.given i).fits)) c.requires.1 (context_in c.args.l) 0 c.in_ok-judge_admission.ensures).accepted refl c.requires.2 _ y.0 y.1
