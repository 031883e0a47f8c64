use mathlib.Core.Path.{◌≡◌, ap, ◌∙◌}
use borrow.Author.Tests.{eq-eqb, ne_eqb}
use Rattle.schema.specs.Schema.{Schema}
use Rattle.schema.specs.CountedElements.{held_of}
use Rattle.schema.specs.Table.{ranges_at, attrs_at, head_at, node_at, names_at}
use Rattle.schemas.specs.Track1.{track1}
use Rattle.schemas.specs.Track2.{track2}
use Rattle.schemas.specs.Schemas.{schema_of}
use Rattle.schemas.proofs.shapes.held.Goals as goal

-- the table is the schema: both sides are computed
pub returns-then-track-eq1 : goal.returns-then-track-eq1
unfolding ranges_at attrs_at head_at node_at names_at track1
returns-then-track-eq1 c =
    let k : track1 ≡ schema_of c.args.track = rw (eq-eqb c.args.track 1 c.if-track-eq1.true) in
    (λ x m e. c.shape.ensures.0 x m e ∙ ap (λ (y : Schema). held_of y x) k, c.shape.ensures.1)

pub returns-else-track-eq1 : goal.returns-else-track-eq1
unfolding ranges_at attrs_at head_at node_at names_at track2
returns-else-track-eq1 c =
    let k : track2 ≡ schema_of c.args.track = rw (ne_eqb c.args.track 1 c.if-track-eq1.false) in
    (λ x m e. c.shape-else-track-eq1.ensures.0 x m e ∙ ap (λ (y : Schema). held_of y x) k, c.shape-else-track-eq1.ensures.1)
