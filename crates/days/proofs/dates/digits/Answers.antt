use mathlib.Core.Path.{refl, sym, ◌∙◌}
use Rattle.days.proofs.Digits.{at_most_four, left_next, left_bad, left_end, grows, digit_between}
use lib.ListN.{get_or}
use native.Mathlib.Omega.{arith}
use Rattle.days.proofs.dates.digits.Goals as goal

pub returns-then-not-is_digit : goal.returns-then-not-is_digit
returns-then-not-is_digit c =
    (left_bad _ _ _ c.loop-b.invariant.1 _ c.loop-b-test.true refl (sym c.is_digit.ensures ∙ c.if-not-is_digit.true), omega arith)

pub loop-b-preserved : goal.loop-b-preserved
loop-b-preserved c =
    let d = sym c.is_digit.ensures ∙ c.if-not-is_digit.false in (
      let e = digit_between (get_or c.args.s.now c.loop-b.b-index 0) d in grows _ _ _ c.loop-b.invariant.0 (omega arith),
      left_next _ _ _ c.loop-b.invariant.1 _ c.loop-b-test.true refl d,
    )

pub returns : goal.returns
returns c = (left_end _ _ _ c.loop-b.invariant.1 c.loop-b-test.false, omega (arith, at_most_four _ _ c.loop-b.invariant.0 (omega arith)))
