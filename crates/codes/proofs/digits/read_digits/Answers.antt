use mathlib.Core.Path.{ap, ◌∙◌}
use Prim.Native.Nat.{◌+◌}
use lib.ListN.{drop}
use Rattle.laws.specs.Decimal.{is_digit, decimal_after}
use Rattle.laws.proofs.Folding.{fold_step, fold_end}
use Rattle.codes.specs.Capped.{up_to}
use Rattle.codes.proofs.Decimals.{min_is, up_to_le, digits_on, digits_over}
use Rattle.codes.proofs.digits.read_digits.Goals as goal

pub loop-b-preserved : goal.loop-b-preserved
loop-b-preserved c =
    let m = c.min-number.ensures ∙ min_is c.args.most _ in (
      rw m (up_to_le c.args.most _),
      ap (λ n. up_to c.args.most (decimal_after n (drop (c.loop-b.b-index + 1) c.args.s.now))) m
          ∙ digits_on c.args.most c.args.s.now c.loop-b.number c.loop-b.b-index _ c.loop-b-test.true c.worth.ensures.0 ∙ c.loop-b.invariant.1,
      fold_step is_digit c.args.s.now c.loop-b.b-index _ c.loop-b.good _ c.loop-b-test.true c.is_digit-good.ensures c.loop-b.invariant.2,
    )

pub returns : goal.returns
returns c = (
  digits_over c.args.most c.args.s.now c.loop-b.number c.loop-b.b-index c.loop-b-test.false c.loop-b.invariant.0 ∙ c.loop-b.invariant.1,
  fold_end is_digit c.args.s.now c.loop-b.b-index _ c.loop-b.good c.loop-b-test.false c.loop-b.invariant.2,
)
