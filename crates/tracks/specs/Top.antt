-- A record's children that its fields are read from, found in one walk.
use Rattle.std.specs.Prelude.{ℕ, ◌≡◌, List, drop}
use Rattle.markup.specs.NamesAndValues.Read.{read}
use Rattle.markup.specs.Elements.{Tree, element}
use Rattle.reading.specs.Many.{below_root}
use Rattle.schema.specs.Shape.{fault_of}
use Rattle.nodes.specs.Stands.{Stands}
use Rattle.tracks.specs.declared.record.Top.{Top}
use Rattle.tracks.specs.RecordFields.{◌▹◌, record_of}
use Rattle.tracks.specs.WellRead.{WellRead}
use Rattle.tracks.specs.View.{each_of}

-- the record a stands at a place, and top has its children that the fields are read from
pub record TopOf (s : List ℕ) (at : ℕ) (a : Tree) (top : Top) : Type 0 where
  pub after : List ℕ
  pub reads : element below_root (drop at s) ≡ read a after
  pub transmission : Stands top.transmission.levels (drop top.transmission.at s) (a ▹ "Trasmissione")
  pub patient : Stands top.patient.levels (drop top.patient.at s) (a ▹ "Assistito")
  pub provider : Stands top.provider.levels (drop top.provider.at s) (a ▹ "Erogatore")
  pub events : Stands top.events.levels (drop top.events.at s) (a ▹ "Eventi")

-- and the record is of its track's shape, its fields in range: the file was held against its schema before any record is read, and no other bytes stand
-- in it than a file may hold (M1)
pub record OfShape (track : ℕ) (s : List ℕ) (top : Top) (a : Tree) : Type 0 where
  pub at : ℕ
  pub tops : TopOf s at a top
  pub clean : fault_of (each_of track) a ≡ 0
  pub well : WellRead (record_of track a)
