use mathlib.Core.Path.{◌∙◌, refl, sym}
use native.Mathlib.Omega.{arith}
use Rattle.markup.specs.Elements.{kids}
use Rattle.nodes.proofs.Naming.{first_hit, first_none, first_on}
use Rattle.nodes.proofs.Walking.{look_gone, look_here, look_past, look_stuck}
use Rattle.nodes.specs.Stands.{lacks, stands}
use Rattle.nodes.proofs.children.child_from.Goals as goal

-- The invariant: the first of the name among the children ahead is the first of all.

pub returns-in_default : goal.returns-in_default
returns-in_default c =
    let n = c.in_default.ensures in
    λ i w. let k = c.loop-q.invariant.1 i w in lacks refl (look_gone k (n.0 _ _ k.holds) ∙ first_none c.args.x.now)

pub returns-then-is_named : goal.returns-then-is_named
returns-then-is_named c =
    let n = c.in-Some.ensures in
    let x = c.args.x.now in
    λ i w. let k = c.loop-q.invariant.1 i w in let a = n.0 _ _ k.holds in
    rw (look_here k a (first_hit x a.tree (kids a.more) (sym c.if-is_named.true ∙ c.is_named.ensures _ a.tree a.after a.reads))) (stands a.after a.reads)

pub returns-in_default-skip : goal.returns-in_default-skip
returns-in_default-skip c =
    let n = c.in-Some.ensures in
    let e = c.in_default-skip.ensures in
    λ i w. let k = c.loop-q.invariant.1 i w in let a = n.0 _ _ k.holds in look_stuck k a (e.0 _ a.tree a.after a.reads)

pub loop-q-preserved : goal.loop-q-preserved
loop-q-preserved c =
    let n = c.in-Some.ensures in
    let e = c.in-Some-skip.ensures in
    let x = c.args.x.now in (
      omega (arith, n.1, e.1, c.loop-q.invariant.0),
      λ i w. let k = c.loop-q.invariant.1 i w in let a = n.0 _ _ k.holds in
          look_past k a (λ ts. first_on x a.tree ts (sym c.if-is_named.false ∙ c.is_named.ensures _ a.tree a.after a.reads)) (e.0 _ a.tree a.after a.reads),
    )
