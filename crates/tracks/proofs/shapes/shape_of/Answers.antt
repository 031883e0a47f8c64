use mathlib.Core.Path.{◌∙◌}
use lib.ListN.{drop}
use Rattle.markup.specs.Elements.{depth}
use Rattle.schema.specs.Shape.{shape_of}
use Rattle.schemas.specs.Schemas.{schema_of}
use Rattle.tracks.specs.TooMany.{crowded_in}
use Rattle.tracks.proofs.Counted.{held_is, answered}
use Rattle.tracks.proofs.shapes.shape_of.Goals as goal

pub returns : goal.returns
returns c =
    (λ x m e. answered (shape_of (schema_of c.args.track) x) (crowded_in c.args.track x) (c.held.ensures.0 x m e ∙ held_is x depth (drop c.args.root c.args.s.now) m e c.args.track), c.held.ensures.1)
