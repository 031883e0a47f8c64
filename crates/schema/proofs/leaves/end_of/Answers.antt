use Rattle.schema.proofs.Leaf.{first_close, first_refused, end_other}
use Rattle.schema.specs.View.{is_end}
use Rattle.std.proofs.Common.{ap, drop}
use Rattle.schema.proofs.leaves.end_of.Goals as goal

pub returns-in_err-done : goal.returns-in_err-done
returns-in_err-done c =
    let a = c.args in
    rw c.from_residual.ensures
    record { tells = λ d i m e. absurd (first_refused d _ (drop a.start a.s.now) i m e c.in_err-done.ensures.0); places = tt }

pub returns-in-Close : goal.returns-in-Close
returns-in-Close c =
    let a = c.args in
    let x = rw c.in-Close.is at c.in_ok-done.ensures in
    record { tells = λ d i m e. let k = first_close d _ (drop a.start a.s.now) i m e x.0 in (ap is_end k.0, k.1); places = x.1 }

pub returns-in_default : goal.returns-in_default
returns-in_default c =
    let a = c.args in
    record { tells = λ d i m e. end_other a.s.now a.start d _ i m e _ c.in_ok-done.ensures.0 c.in_default.not-Close; places = tt }
