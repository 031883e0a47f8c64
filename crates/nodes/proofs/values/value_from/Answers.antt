use lib.ListN.{drop}
use Rattle.std.specs.Prelude.{Option, Some, None}
use Rattle.nodes.specs.declared.Span.{Span}
use Rattle.nodes.specs.Stands.{Valued}
use Rattle.nodes.proofs.Valuing.{of_done, of_refused, of_next, valued_here, valued_none, valued_on}
use Rattle.nodes.proofs.values.value_from.Goals as goal

-- The invariant: what is right to answer from `at` on is right to answer from the start.

pub returns-in_err-a : goal.returns-in_err-a
returns-in_err-a c =
    rw c.from_residual.ensures (c.loop-a.invariant None (of_refused _ (drop c.loop-a.at c.args.s.now) c.in_err-a.ensures.0), tt)

pub returns-in_default : goal.returns-in_default
returns-in_default c =
    let y = rw c.in_default.is at c.in_ok-a.ensures in
    let s = c.args.s.now in
    let x = c.args.x.now in
    let n : Option Span = None in
    (c.loop-a.invariant n (of_done (λ ps. Valued s x ps n) (drop c.loop-a.at s) _ _ y.0 (valued_none s x)), tt)

pub returns-then-same : goal.returns-then-same
returns-then-same c =
    let y = rw c.in-More.is at c.in_ok-a.ensures in
    let e = rw c.part.ensures at c.if-same.ensures in
    let s = c.args.s.now in
    let x = c.args.x.now in
    let a = c.in-More.a in
    let v : Option Span = Some (record { start = a.value; end = a.value_end }) in
    (c.loop-a.invariant v (of_next (λ ps. Valued s x ps v) (drop c.loop-a.at s) y.0 (λ b m i. valued_here s x a b.pairs e)), y.1.1)

pub loop-a-preserved : goal.loop-a-preserved
loop-a-preserved c =
    let y = rw c.in-More.is at c.in_ok-a.ensures in
    let e = rw c.part.ensures at c.if-same.ensures in
    let s = c.args.s.now in
    let x = c.args.x.now in
    λ r h. c.loop-a.invariant r (of_next _ _ y.0 (λ b m i. valued_on s x _ b.pairs r e (h b m i)))
