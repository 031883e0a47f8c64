use Rattle.tracks.proofs.Gathering.{none_told}
use Rattle.tracks.proofs.ShapedEvents.{events_in}
use Rattle.tracks.proofs.events.events.Goals as goal

pub returns-in-None : goal.returns-in-None
returns-in-None c = λ a k. none_told c.args.out.now c.args.beside.now (c.in-None.ensures.0 _ k.tops.events)

pub events_from-requires : goal.events_from-requires
events_from-requires c = let x = c.requires.1 in (_, c.in-Some.ensures.0 _ x.tops.events, events_in x)

pub returns-in-Some : goal.returns-in-Some
returns-in-Some c = λ a k. c.events_from.ensures _ (c.in-Some.ensures.0 _ k.tops.events)
