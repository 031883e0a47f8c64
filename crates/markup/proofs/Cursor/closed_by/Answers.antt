use mathlib.Core.Path.{sym, ◌∙◌}
use native.Mathlib.Omega.{arith}
use Rattle.markup.proofs.AtComments.{closed-at, closed_inside, closed_end}
use Rattle.markup.proofs.Cursor.closed_by.Goals as goal

pub returns-then-b-first : goal.returns-then-b-first
returns-then-b-first c =
    let d = closed-at c.args.first c.args.second c.args.s.now c.loop-at.at _ c.loop-at-test.true c.peek-c.ensures in
    (sym (c.loop-at.invariant ∙ rw (d, c.if-b-first.true)), omega (arith, closed_inside c.args.first c.args.second c.args.s.now c.loop-at.at _ c.loop-at-test.true c.peek-c.ensures c.requires c.if-b-first.true))

pub returns-then-opens_other : goal.returns-then-opens_other
returns-then-opens_other c =
    let d = closed-at c.args.first c.args.second c.args.s.now c.loop-at.at _ c.loop-at-test.true c.peek-c.ensures in
    (sym (c.loop-at.invariant ∙ rw (d, c.if-b-first.false, ← c.opens_other.ensures, c.if-opens_other.true)), tt)

pub loop-at-preserved : goal.loop-at-preserved
loop-at-preserved c =
    let d = closed-at c.args.first c.args.second c.args.s.now c.loop-at.at _ c.loop-at-test.true c.peek-c.ensures in
    c.loop-at.invariant ∙ rw (d, c.if-b-first.false, ← c.opens_other.ensures, c.if-opens_other.false)

pub returns : goal.returns
returns c = (sym (c.loop-at.invariant ∙ closed_end _ _ _ _ c.loop-at-test.false), tt)
