use mathlib.Core.Path.{sym, ap, ◌∙◌}
use Rattle.days.specs.Dates.{is_date, day_of}
use Rattle.tracks.proofs.Written.{nameless, named}
use Rattle.tracks.proofs.fields.attr_end.Goals as goal

pub returns-then-is_empty : goal.returns-then-is_empty
returns-then-is_empty c = λ t h. rw (nameless c.args.x.now t c.if-is_empty.ensures).1

pub day_of-requires : goal.day_of-requires
day_of-requires c =
    let k = c.requires in
    let n = named c.args.x.now k.0 c.if-is_empty.ensures in
    let w = c.in-Some.ensures k.0 k.1 in
    ap is_date (w.0 ∙ sym n.0) ∙ k.2 (n.1 ∙ w.1)

pub returns-in-Some : goal.returns-in-Some
returns-in-Some c =
    λ t h.
    let n = named c.args.x.now t c.if-is_empty.ensures in
    let w = c.in-Some.ensures t h in
    rw (n.1 ∙ w.1, n.0) (c.day_of.ensures.0 ∙ ap day_of w.0)

pub returns-in-None : goal.returns-in-None
returns-in-None c = λ t h. rw ((named c.args.x.now t c.if-is_empty.ensures).1 ∙ (c.in-None.ensures t h).1)
