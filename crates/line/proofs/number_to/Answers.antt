use mathlib.Core.Path.{sym, ap, ◌∙◌}
use Rattle.laws.specs.Decimal.{decimal}
use Rattle.codes.specs.Capped.{up_to}
use Rattle.line.proofs.Reading.{number_empty, number_long, number_unmarked, number_is, value_below, mark_inside}
use native.Mathlib.Omega.{arith}
use Rattle.line.proofs.number_to.Goals as goal

pub returns-then-end-from : goal.returns-then-end-from
returns-then-end-from c = (number_empty c.args.s.now c.args.from _ c.args.mark c.digits_end-end.ensures c.if-end-from.true, tt)

pub returns-then-end-from-gt4 : goal.returns-then-end-from-gt4
returns-then-end-from-gt4 c = (number_long c.args.s.now c.args.from _ c.args.mark c.digits_end-end.ensures c.if-end-from-gt4.true, tt)

pub returns-then-peek-mark : goal.returns-then-peek-mark
returns-then-peek-mark c =
    (number_unmarked c.args.s.now c.args.from _ c.args.mark c.digits_end-end.ensures (λ e. c.if-peek-mark.true (c.peek.ensures ∙ e)), tt)

pub returns : goal.returns
returns c =
    let m = sym c.peek.ensures ∙ c.if-peek-mark.false in
    let v = c.read_digits-value.ensures.0 ∙ ap (λ x. up_to 9999 (decimal x)) c.part.ensures in
    let l = mark_inside c.args.s.now _ c.args.mark c.requires m in
    (number_is c.args.s.now c.args.from _ c.args.mark c.digits_end-end.ensures c.if-end-from.false c.if-end-from-gt4.false m v, (value_below _ v, omega arith, omega arith))
