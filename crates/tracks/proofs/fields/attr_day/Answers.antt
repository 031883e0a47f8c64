use mathlib.Core.Path.{ap, ◌∙◌}
use Rattle.days.specs.Dates.{is_date, day_of}
use Rattle.tracks.proofs.fields.attr_day.Goals as goal

pub day_of-requires : goal.day_of-requires
day_of-requires c = let k = c.requires in ap is_date (c.attr_text.ensures k.0 k.1) ∙ k.2

pub returns : goal.returns
returns c = (λ t h. c.day_of.ensures.0 ∙ ap day_of (c.attr_text.ensures t h), c.day_of.ensures.1)
