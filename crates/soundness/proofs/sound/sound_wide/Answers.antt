use Rattle.soundness.proofs.Deciding.{too_short, no_room, not_valid, by_tail}
use native.Mathlib.Omega.{arith}
use Rattle.soundness.proofs.sound.sound_wide.Goals as goal

pub returns-then-reg-lt4 : goal.returns-then-reg-lt4
returns-then-reg-lt4 c = too_short c.args.w c.args.reg.now c.if-reg-lt4.true

pub returns-then-room_of-rows : goal.returns-then-room_of-rows
returns-then-room_of-rows c =
    no_room c.args.w c.args.reg.now _ _ c.count-cases.ensures.0 c.count.ensures.0 c.if-reg-lt4.false (omega (arith, c.room_of.ensures.0))

pub returns-then-not-rows_valid : goal.returns-then-not-rows_valid
returns-then-not-rows_valid c =
    not_valid c.args.w c.args.reg.now _ _ c.count-cases.ensures.0 c.count.ensures.0 c.if-reg-lt4.false _ c.rows_valid.ensures (c.if-not-rows_valid.true)

pub returns : goal.returns
returns c =
    by_tail c.args.w c.args.reg.now _ _ c.count-cases.ensures.0 c.count.ensures.0 c.if-reg-lt4.false _ _ c.rows_valid.ensures (c.if-not-rows_valid.false) c.all_zero.ensures
