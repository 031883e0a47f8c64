use mathlib.Core.Path.{sym}
use lib.ListN.{length-drop}
use native.Mathlib.Omega.{arith}
use Rattle.laws.proofs.Reach.{reach_start, reach_next, reach_stop}
use Rattle.markup.specs.Document.{misc}
use Rattle.markup.proofs.Cursor.misc.Goals as goal

-- The invariant: what white space and comments leave from `here` on is what they leave from the start.

pub loop-next-init : goal.loop-next-init
unfolding misc
loop-next-init c = (omega arith, reach_start _ _ _ _, omega arith)

pub returns-in_err-next : goal.returns-in_err-next
returns-in_err-next c = rw c.from_residual.ensures (sym (reach_stop c.loop-next.invariant.1 (sym c.in_err-next.ensures.0)), tt)

pub loop-next-preserved : goal.loop-next-preserved
loop-next-preserved c =
    let x = rw c.in-More.is at c.in_ok-next.ensures in
    (omega arith, reach_next c.loop-next.invariant.1 (sym x.0) (simp length-drop (omega arith)), omega arith)

pub returns-in-Done : goal.returns-in-Done
returns-in-Done c =
    let x = rw c.in-Done.is at c.in_ok-next.ensures in
    (sym (reach_stop c.loop-next.invariant.1 (sym x.0)), (omega arith, omega arith))
