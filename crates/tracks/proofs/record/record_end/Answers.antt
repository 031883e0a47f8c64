use mathlib.Core.Path.{sym, ap, ◌∙◌}
use Rattle.markup.specs.View.{left}
use Rattle.markup.proofs.AtNames.{ok_move_back}
use Rattle.tracks.proofs.record.record_end.Goals as goal

pub returns-in_default : goal.returns-in_default
returns-in_default c = (λ a m e u. c.skip.ensures.0 _ a m e, c.skip.ensures.1)

pub returns : goal.returns
returns c =
    let h = rw c.in-Some.is at c.requires in
    (λ a m e u. let k = rw c.in-Some.is at u in c.past.ensures.0 k.0 k.1 k.2 m k.3 ∙ sym (ap left e), ok_move_back c.args.s.now c.args.at c.in-Some.place c.past.result h c.past.ensures.1)
