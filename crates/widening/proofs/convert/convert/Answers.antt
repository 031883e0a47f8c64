use Rattle.std.proofs.Common.{sym, ◌∙◌, arith}
use Rattle.widening.proofs.Answers.{not_sound, sound_long, no_header, no_room, rows_fit, laid}
use Rattle.widening.proofs.convert.convert.Goals as goal

pub returns-then-not-sound_wide : goal.returns-then-not-sound_wide
returns-then-not-sound_wide c = not_sound c.args.old.now c.args.new.now (sym c.sound_wide.ensures ∙ c.if-not-sound_wide.true)

pub count-requires : goal.count-requires
count-requires c = omega (arith, sound_long c.args.old.now c.args.new.now (sym c.sound_wide.ensures ∙ c.if-not-sound_wide.false))

pub count-requires-2 : goal.count-requires-2
count-requires-2 c = omega (arith, sound_long c.args.old.now c.args.new.now (sym c.sound_wide.ensures ∙ c.if-not-sound_wide.false))

pub returns-then-new-lt4 : goal.returns-then-new-lt4
returns-then-new-lt4 c = no_header c.args.old.now c.args.new.now (sym c.sound_wide.ensures ∙ c.if-not-sound_wide.false) c.if-new-lt4.true

pub returns-then-room_of-rows : goal.returns-then-room_of-rows
returns-then-room_of-rows c =
    no_room c.args.old.now c.args.new.now (sym c.sound_wide.ensures ∙ c.if-not-sound_wide.false) c.if-new-lt4.false (omega (arith, c.if-room_of-rows.true, c.room_of.ensures.0, c.count.ensures.0, c.count-2.ensures.0))

pub lay-requires : goal.lay-requires
lay-requires c =
    let f = rows_fit c.args.old.now c.args.new.now (sym c.sound_wide.ensures ∙ c.if-not-sound_wide.false) c.if-new-lt4.false (omega (arith, c.if-room_of-rows.false, c.room_of.ensures.0, c.count.ensures.0, c.count-2.ensures.0)) in
    (omega arith, omega arith, omega arith)

pub returns : goal.returns
returns c =
    let r = laid c.args.old.now c.args.new.now (sym c.sound_wide.ensures ∙ c.if-not-sound_wide.false) c.if-new-lt4.false (omega (arith, c.if-room_of-rows.false, c.room_of.ensures.0, c.count.ensures.0, c.count-2.ensures.0)) in
    (r.0, c.lay.ensures ∙ r.1)
