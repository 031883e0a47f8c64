use mathlib.Core.Path.{◌∙◌}
use native.Mathlib.Omega.{arith}
use Rattle.std.proofs.Common.{rules}
use Rattle.nodes.proofs.Entering.{headed, head_name, not_headed}
use Rattle.nodes.proofs.Seeking.{walk_holds, walk_rest, walk_kid_rest, walk_end, walk_meet, walk_on, walk_stuck, all_met}
use Rattle.nodes.proofs.several.several_from.Goals as goal

-- The invariant: each of the nodes is found, or it is the first of its name among the children ahead, which end where those from the start on end.

pub returns-in_default : goal.returns-in_default
returns-in_default g c =
    let n = c.in_default.ensures in
    (λ i m w. let k = c.loop-q.invariant.1 i m w in (walk_end k (n.0 _ _ (walk_holds k)), walk_rest k), c.loop-q.invariant.0)

pub returns-in_default-head : goal.returns-in_default-head
returns-in_default-head g c =
    let n = c.in-Some.ensures in
    (λ i m w. let k = c.loop-q.invariant.1 i m w in let a = n.0 _ _ (walk_holds k) in not_headed (headed _ _ a.tree a.after a.reads) c.in_default-head.ensures.0, omega (arith, n.1, c.loop-q.invariant.0))

pub returns-then-all_there : goal.returns-then-all_there
returns-then-all_there g c =
    let n = c.in-Some.ensures in
    (λ i m w. let k = c.loop-q.invariant.1 i m w in let a = n.0 _ _ (walk_holds k) in (all_met (λ j b. c.all_there.ensures.0 (search (rules, c.if-all_there.true)) j _ b) (walk_meet k c.in-Some.q a (c.part.ensures ∙ head_name (headed _ _ a.tree a.after a.reads) c.in-Some-head.ensures.0) c.meet.auto.found c.meet.ensures), walk_kid_rest k c.in-Some.q a), omega (arith, n.1, c.loop-q.invariant.0))

pub returns-in_default-skip : goal.returns-in_default-skip
returns-in_default-skip g c =
    let n = c.in-Some.ensures in
    (λ i m w. let k = c.loop-q.invariant.1 i m w in let a = n.0 _ _ (walk_holds k) in walk_stuck k c.in-Some.q a (c.in_default-skip.ensures.0 _ a.tree a.after a.reads), omega (arith, n.1, c.loop-q.invariant.0))

pub loop-q-preserved : goal.loop-q-preserved
loop-q-preserved g c =
    let n = c.in-Some.ensures in
    let e = c.in-Some-skip.ensures in
    (omega (arith, n.1, e.1, c.loop-q.invariant.0), λ i m w. let k = c.loop-q.invariant.1 i m w in let a = n.0 _ _ (walk_holds k) in walk_on k c.in-Some.q c.in-Some-skip.done.at a (walk_meet k c.in-Some.q a (c.part.ensures ∙ head_name (headed _ _ a.tree a.after a.reads) c.in-Some-head.ensures.0) c.meet.auto.found c.meet.ensures) (e.0 _ a.tree a.after a.reads))
