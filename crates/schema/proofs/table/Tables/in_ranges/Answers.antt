use Rattle.schema.proofs.Ranges.{ranges_start, ranges_end, ranges_hit, ranges_pass}
use mathlib.Core.Path.{sym, ◌∙◌}
use native.Mathlib.Omega.{arith}
use Rattle.schema.proofs.table.Tables.in_ranges.Goals as goal

pub loop-k-init : goal.loop-k-init
loop-k-init c = λ t p y h. rw (← ranges_start t p _ _ _)

pub returns-then-range-x : goal.returns-then-range-x
returns-then-range-x c =
    λ t p y h. ranges_hit t p _ _ _ _ _ _ c.loop-k-test.true c.range-range.ensures.0 c.range-range.ensures.1 (omega arith) h c.if-range-x.true ∙ c.loop-k.invariant t p y h

pub loop-k-preserved : goal.loop-k-preserved
loop-k-preserved c =
    λ t p y h. sym (ranges_pass t p _ _ _ _ _ _ c.loop-k-test.true c.range-range.ensures.0 c.range-range.ensures.1 (omega arith) h c.if-range-x.false) ∙ c.loop-k.invariant t p y h

pub returns : goal.returns
returns c = λ t p y h. sym (ranges_end t p _ _ _ _ y c.loop-k-test.false) ∙ c.loop-k.invariant t p y h
