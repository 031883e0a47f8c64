use Prim.Native.Nat.{◌-◌}
use mathlib.Core.Path.{ap, ◌∙◌}
use borrow.Author.Rules.{rules}
use Rattle.evaluation.proofs.LatestRow.{keeps_one, row_is, started, passed_on, found_here, found_none}
use Rattle.evaluation.proofs.in_force.latest.Goals as goal

pub loop-i-init : goal.loop-i-init
loop-i-init c = started c.args.reg.now c.args.day c.args.lo c.args.hi c.place_by-late.ensures

pub returns-then-keeps : goal.returns-then-keeps
returns-then-keeps c =
    found_here c.args.reg.now c.args.day c.args.lo c.args.hi c.loop-i.i c.loop-i.invariant (search rules) _ (c.keeps.ensures ∙ ap keeps_one (row_is c.args.reg.now _ (c.loop-i.i - 1) c.row_at.ensures.0 c.row_at.ensures.1)) c.if-keeps.true

pub loop-i-preserved : goal.loop-i-preserved
loop-i-preserved c =
    passed_on c.args.reg.now c.args.day c.args.lo c.args.hi c.loop-i.i c.loop-i.invariant (search rules) _ (c.keeps.ensures ∙ ap keeps_one (row_is c.args.reg.now _ (c.loop-i.i - 1) c.row_at.ensures.0 c.row_at.ensures.1)) c.if-keeps.false

pub returns : goal.returns
returns c = found_none c.args.reg.now c.args.day c.args.lo c.args.hi c.loop-i.invariant (search rules)
