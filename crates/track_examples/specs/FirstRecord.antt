-- The first record of a file, with its children at hand.
use Rattle.std.specs.Prelude.{ℕ, List, Option, Some, None}
use Rattle.markup.specs.Elements.{Tree}
use Rattle.tracks.specs.declared.record.Top.{Top}
use Rattle.tracks.specs.Top.{OfShape}

-- where there is one, it is of its track's shape
abbrev pub IsFirst : ℕ → List ℕ → Option Top → Type 0
IsFirst track s (Some top) = (a : Tree) × OfShape track s top a
IsFirst track s None = Unit
