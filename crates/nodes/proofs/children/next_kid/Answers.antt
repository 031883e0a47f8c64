use native.Mathlib.Omega.{arith}
use Rattle.nodes.proofs.Walking.{holds_bad, holds_kid, look_close, look_note, look_words}
use Rattle.nodes.proofs.children.next_kid.Goals as goal

-- The invariant: the children ahead are the children from the start on.

pub returns-in_err-end : goal.returns-in_err-end
returns-in_err-end c = rw c.from_residual.ensures (λ d i w. holds_bad (c.loop-end.invariant.1 d i w).holds c.in_err-end.ensures.0, tt)

pub returns-in-Close : goal.returns-in-Close
returns-in-Close c =
    let p = rw c.in-Close.is at c.in_ok-end.ensures in
    (λ d i w. look_close (c.loop-end.invariant.1 d i w) p.0, tt)

pub loop-end-preserved-in-Words : goal.loop-end-preserved-in-Words
loop-end-preserved-in-Words c =
    let p = rw c.in-Words.is at c.in_ok-end.ensures in
    (omega arith, λ d i w. look_words (c.loop-end.invariant.1 d i w) p.0)

pub loop-end-preserved : goal.loop-end-preserved
loop-end-preserved c =
    let p = rw c.in-Aside.is at c.in_ok-end.ensures in
    (omega arith, λ d i w. look_note (c.loop-end.invariant.1 d i w) p.0)

pub returns-in-Kid : goal.returns-in-Kid
returns-in-Kid c =
    let p = rw c.in-Kid.is at c.in_ok-end.ensures in
    (λ d i w. let k = c.loop-end.invariant.1 d i w in rw k.same (holds_kid k.holds p.0).0, c.loop-end.invariant.0)
