use Rattle.std.proofs.Common.{arith}
use Rattle.std.proofs.lemmas.Grind.{common_steps}
use Rattle.judge.specs.Asked.{answer_admission}
use Rattle.judge.specs.View.{context_in}
use Rattle.judge.proofs.Told.{admission_told}
use Rattle.judge.proofs.check_order.judge_admission.Goals as goal

pub returns-then-out_of_quarter : goal.returns-then-out_of_quarter
unfolding answer_admission
returns-then-out_of_quarter c =
    let a = c.args in
    λ g m i w sound. admission_told a.reg.now (context_in a.l) a.h.now.tipo a.h.now.taken a.h.now.probe _ _ _ _ _ _ 10 g m i w (grind (arith, common_steps))

pub returns-then-bad_birth : goal.returns-then-bad_birth
unfolding answer_admission
returns-then-bad_birth c =
    let a = c.args in
    λ g m i w sound. admission_told a.reg.now (context_in a.l) a.h.now.tipo a.h.now.taken a.h.now.probe _ _ _ _ _ _ 11 g m i w (let b = c.bad_birth.ensures g.key m.case i.taken w.birth in grind (arith, common_steps))

pub returns-then-bad_residence : goal.returns-then-bad_residence
unfolding answer_admission
returns-then-bad_residence c =
    let a = c.args in
    λ g m i w sound. admission_told a.reg.now (context_in a.l) a.h.now.tipo a.h.now.taken a.h.now.probe _ _ _ _ _ _ 12 g m i w (let b = c.bad_birth.ensures g.key m.case i.taken w.birth in grind (arith, common_steps))

pub returns-then-zero_kept : goal.returns-then-zero_kept
unfolding answer_admission
returns-then-zero_kept c =
    let a = c.args in
    λ g m i w sound. admission_told a.reg.now (context_in a.l) a.h.now.tipo a.h.now.taken a.h.now.probe _ _ _ _ _ _ 13 g m i w (let b = c.bad_birth.ensures g.key m.case i.taken w.birth in grind (arith, common_steps))

pub returns : goal.returns
unfolding answer_admission
returns c =
    let a = c.args in
    λ g m i w sound. admission_told a.reg.now (context_in a.l) a.h.now.tipo a.h.now.taken a.h.now.probe _ _ _ _ _ _ _ g m i w (let b = c.bad_birth.ensures g.key m.case i.taken w.birth in let e = c.against_case.ensures sound in grind (arith, common_steps))
