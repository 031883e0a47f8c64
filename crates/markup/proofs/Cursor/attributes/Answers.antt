use mathlib.Core.Path.{sym, ap}
use lib.ListN.{length-drop}
use native.Mathlib.Omega.{arith}
use Rattle.laws.proofs.Reach.{reach_start, reach_next, reach_stop, reach_to}
use Rattle.markup.specs.Tags.{attributes}
use Rattle.markup.specs.View.{ending_of}
use Rattle.markup.proofs.AtTags.{attributes_none, ending_before}
use Rattle.markup.proofs.Cursor.attributes.Goals as goal

-- The invariant: how the attributes end from `here` on is how they end from the start.

pub returns-then-peek-eq62 : goal.returns-then-peek-eq62
returns-then-peek-eq62 c =
    let f = attributes_none c.args.s.now c.args.self.at c.peek.result c.peek.ensures c.if-peek-eq62.true in
    (sym (ap ending_of f.0), omega arith)

pub loop-attribute-init : goal.loop-attribute-init
unfolding attributes
loop-attribute-init c = (omega arith, reach_start _ _ _ _)

pub returns-in_err-attribute : goal.returns-in_err-attribute
returns-in_err-attribute c = rw c.from_residual.ensures (sym (reach_stop c.loop-attribute.invariant.1 (sym c.in_err-attribute.ensures.0)), tt)

pub loop-attribute-preserved : goal.loop-attribute-preserved
loop-attribute-preserved c =
    let x = rw c.in-More.is at c.in_ok-attribute.ensures in
    (omega arith, reach_to (reach_next c.loop-attribute.invariant.1 (sym x.0) (simp length-drop (omega arith))) (ending_before _))

pub returns-in-Done : goal.returns-in-Done
returns-in-Done c =
    let x = rw c.in-Done.is at c.in_ok-attribute.ensures in
    (sym (reach_stop c.loop-attribute.invariant.1 (sym x.0)), omega arith)
