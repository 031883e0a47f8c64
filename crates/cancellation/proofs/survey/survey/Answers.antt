use mathlib.Core.Path.{sym, ◌∙◌}
use native.Mathlib.Omega.{arith}
use Rattle.cancellation.proofs.SurveyLaws.{survey_start, survey_with, survey_skip, survey_done}
use Rattle.cancellation.proofs.survey.survey.Goals as goal
use Rattle.cancellation.proofs.survey.survey.Goals.{then-dated_in, else-dated_in}

-- What was surveyed so far, together with the rows that are left, gives the whole.

pub loop-i-init : goal.loop-i-init
loop-i-init c = survey_start c.args.choice.now.rows_in.order

pub with-s-requires : goal.with-s-requires
with-s-requires c =
    let v = c.loop-i.invariant in
    (c.event_at-e.ensures.1, omega (arith, v.few, c.args.choice.now.rows_in.few), v.small)

pub loop-i-preserved : goal.loop-i-preserved
loop-i-preserved c =
    let l = c.loop-i in
    let e = c.event_at-e in
    let d = sym c.dated_in.ensures in
    elim c.if-dated_in.branch [
      | then-dated_in w ↦ rw w.s-is (survey_with l.invariant c.loop-i-test.true e.ensures.0 (d ∙ w.if-dated_in.true) w.with-s.ensures)
      | else-dated_in w ↦ rw w.s-is (survey_skip l.invariant c.loop-i-test.true e.ensures.0 (d ∙ w.if-dated_in.false))
    ]

pub returns : goal.returns
returns c = survey_done c.loop-i.invariant c.loop-i-test.false
