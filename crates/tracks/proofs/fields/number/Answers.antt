use mathlib.Core.Path.{refl}
use lib.ListN.{get_or}
use native.Mathlib.Omega.{arith}
use Rattle.days.proofs.Digits.{left_next, digit_between}
use Rattle.tracks.proofs.Written.{so_far, digit_at, all_read}
use Rattle.tracks.proofs.fields.number.Goals as goal

pub overflow_mul-n : goal.overflow_mul-n
overflow_mul-n c = record { fits = omega (arith, so_far _ _ _ c.loop-b.invariant c.requires) }

pub overflow_sub-b : goal.overflow_sub-b
overflow_sub-b c = (digit_between _ (digit_at _ _ _ c.loop-b.invariant c.requires c.loop-b-test.true)).0

pub overflow_add-n : goal.overflow_add-n
overflow_add-n c =
    let l = c.loop-b in
    let d = digit_between (get_or c.args.x.now l.b-index 0) (digit_at _ _ _ l.invariant c.requires c.loop-b-test.true) in
    record { fits = omega (arith, d, so_far _ _ _ l.invariant c.requires, c.from.ensures) }

pub loop-b-preserved : goal.loop-b-preserved
loop-b-preserved c =
    let x = c.args.x.now in
    let l = c.loop-b in
    rw c.from.ensures (left_next x l.n l.b-index l.invariant (get_or x l.b-index 0) c.loop-b-test.true refl (digit_at _ _ _ l.invariant c.requires c.loop-b-test.true))

pub returns : goal.returns
returns c = all_read _ _ _ c.loop-b.invariant c.requires c.loop-b-test.false
