use Rattle.std.proofs.Common.{◌+◌, ◌-◌, ◌/◌, arith, sym, ◌∙◌}
use borrow.Author.Tests.{ltb-true, ltb-false}
use Rattle.register.proofs.Halving.{up, down}
use Rattle.register.proofs.search.halved.Goals as goal

-- The invariant: what stands before a is below, and what stands from e on is not.

pub loop-a-preserved-then-below : goal.loop-a-preserved-then-below
loop-a-preserved-then-below g c =
    let l = c.loop-a in (
      omega arith,
      omega arith,
      λ f v told. up f v c.args.lo c.args.hi l.a l.e (l.invariant.2 f v told) (l.a + (l.e - l.a) / 2) (omega arith) (omega arith)
          (ltb-true _ _ (sym (told _ _ (omega arith) (omega arith) c.below.ensures) ∙ c.if-below.true)),
    )

pub loop-a-preserved : goal.loop-a-preserved
loop-a-preserved g c =
    let l = c.loop-a in (
      omega arith,
      omega arith,
      λ f v told. down f v c.args.lo c.args.hi l.a l.e (l.invariant.2 f v told) (l.a + (l.e - l.a) / 2) (omega arith) (omega arith)
          (ltb-false _ _ (sym (told _ _ (omega arith) (omega arith) c.below.ensures) ∙ c.if-below.false)),
    )
