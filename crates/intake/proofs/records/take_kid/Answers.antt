use Prim.Native.Nat.{ℕ, ◌+◌}
use mathlib.Core.Path.{◌≡◌, refl}
use mathlib.Core.Bool.{Bool, true, false, cond}
use mir.Val.{bool_byte}
use lib.Dec.{eqb}
use native.Mathlib.Omega.{arith}
use Rattle.reading.specs.Many.{below_root}
use Rattle.judge.specs.View.{context_in}
use Rattle.intake.specs.Taking.{siad_driver}
use Rattle.intake.proofs.Along.{kid_passed, kid_counted}
use Rattle.intake.proofs.SiadDriver.{next_here, next_fits}
use Rattle.intake.proofs.records.take_kid.Goals as goal

-- Where the child is named as a record, it is one that stands there with its children at hand, and the list has a byte for its answer.

as_count : (b : Bool) (n : ℕ) → n + bool_byte b ≡ n + cond b 1 0
as_count true n = refl
as_count false n = refl

pub returns-then-not-is_named : goal.returns-then-not-is_named
returns-then-not-is_named c =
    let d = siad_driver c.args.track (context_in c.args.l) in
    λ a k. kid_passed d c.args.before c.args.reg.now c.args.answers.now a (c.is_named.ensures below_root a k.tops.after k.tops.reads) c.if-not-is_named.true

pub take_record-answer-requires : goal.take_record-answer-requires
take_record-answer-requires c =
    let a = c.requires.0.0 in
    let k = c.requires.0.1 in
    ((a, next_here c.args.track c.args.before a (c.is_named.ensures below_root a k.tops.after k.tops.reads) k c.if-not-is_named.false), c.requires.1, c.requires.2)

pub bounds-answers-before : goal.bounds-answers-before
bounds-answers-before c =
    let a = c.requires.0.0 in
    let k = c.requires.0.1 in
    omega (arith, next_fits c.args.track c.args.before a (c.is_named.ensures below_root a k.tops.after k.tops.reads) k c.if-not-is_named.false)

pub returns : goal.returns
returns c =
    let d = siad_driver c.args.track (context_in c.args.l) in
    let r = c.take_record-answer in
    λ a k. let e = c.is_named.ensures below_root a k.tops.after k.tops.reads in
    kid_counted d c.args.before c.args.reg.now c.args.answers.now a e c.if-not-is_named.false r.result (r.ensures a (next_here c.args.track c.args.before a e k c.if-not-is_named.false)) _ (as_count (eqb r.result 0) c.args.before.accepted)
