-- Answer 7 (RULES.md, F7): a record with too many events.
use Rattle.std.specs.Prelude.{ℕ, ◌+◌, cond, List, [], ◌∷◌, ltb, eqb, length}
use Rattle.markup.specs.Elements.{Tree}
use Rattle.schema.specs.Shape.{records_of}
use Rattle.schemas.specs.Parts.{most_events}
use Rattle.schemas.specs.Schemas.{schema_of}
use Rattle.tracks.specs.RecordFields.{all_said}

-- the number of the first record with too many events, from 1; 0 where none has
unfoldable pub too_many : ℕ → List Tree → ℕ
too_many i [] = 0
too_many i (a ∷ rs) = cond (ltb most_events (length (all_said a))) (1 + i) (too_many (1 + i) rs)

-- F7, of a file of a track: "Some record of Track 2 has more than 128 events: the number of the first such"
abbrev pub crowded_in : ℕ → Tree → ℕ
crowded_in track t = cond (eqb track 1) 0 (too_many 0 (records_of (schema_of track) t))
