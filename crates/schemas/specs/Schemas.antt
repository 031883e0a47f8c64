-- The schema that a file is held against.
use Rattle.std.specs.Prelude.{ℕ, cond, eqb}
use Rattle.schema.specs.Schema.{Schema}
use Rattle.schemas.specs.Track1.{track1}
use Rattle.schemas.specs.Track2.{track2}

-- a track's schema
abbrev pub schema_of : ℕ → Schema
schema_of track = cond (eqb track 1) track1 track2
