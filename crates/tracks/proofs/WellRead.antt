-- READING A RECORD THAT IS OF THE SHAPE guarantees its fields' ranges.
use Prim.Native.Nat.{ℕ}
use mathlib.Core.Path.{◌≡◌}
use mathlib.Core.List.{List}
use Rattle.markup.specs.NamesAndValues.Read.{read}
use Rattle.markup.specs.Elements.{Tree, alone}
use Rattle.markup.specs.Document.{document}
use Rattle.reading.specs.Everywhere.{Every, Deeply}
use Rattle.reading.proofs.Places.{every_map}
use Rattle.schema.specs.Shape.{records_of, fine, shape_of}
use Rattle.nodes.proofs.Legible.{Legible, document_legible}
use Rattle.nodes.proofs.Records.{shaped}
use Rattle.schemas.specs.Track1
use Rattle.schemas.specs.Track2
use Rattle.tracks.specs.RecordFields.{record_of}
use Rattle.tracks.specs.WellRead.{WellRead}
use Rattle.tracks.proofs.Paths.{Clean}
use Rattle.tracks.proofs.Admissions.{head_1, admission_read}
use Rattle.tracks.proofs.EventsRead.{head_2, events_read}

-- one record that is without a fault
pub record_1 : (a : Tree) → Clean Track1.assistenza a → WellRead (record_of 1 a)
unfolding record_of
record_1 a m = (head_1 a m, admission_read a m)

pub record_2 : (a : Tree) → Clean Track2.assistenza a → WellRead (record_of 2 a)
unfolding record_of
record_2 a m = (head_2 a m, events_read a m)

-- all of a tree that is of the shape, and legible
pub well_read_1 : (t : Tree) (n : ℕ) → Deeply Legible (alone t) → shape_of Track1.track1 t ≡ fine n → Every (λ r. WellRead (record_of 1 r)) (records_of Track1.track1 t)
unfolding Track1.track1
well_read_1 t n h e =
    every_map (Clean Track1.assistenza) (λ r. WellRead (record_of 1 r)) record_1 (records_of Track1.track1 t) (shaped Legible Track1.track1 t n e h).records

pub well_read_2 : (t : Tree) (n : ℕ) → Deeply Legible (alone t) → shape_of Track2.track2 t ≡ fine n → Every (λ r. WellRead (record_of 2 r)) (records_of Track2.track2 t)
unfolding Track2.track2
well_read_2 t n h e =
    every_map (Clean Track2.assistenza) (λ r. WellRead (record_of 2 r)) record_2 (records_of Track2.track2 t) (shaped Legible Track2.track2 t n e h).records

-- all of a file
pub file_read_1 : (l : List ℕ) (t : Tree) (m : List ℕ) (n : ℕ) → document l ≡ read t m → shape_of Track1.track1 t ≡ fine n
    → Every (λ r. WellRead (record_of 1 r)) (records_of Track1.track1 t)
file_read_1 l t m n d e = well_read_1 t n (document_legible l t m d) e

pub file_read_2 : (l : List ℕ) (t : Tree) (m : List ℕ) (n : ℕ) → document l ≡ read t m → shape_of Track2.track2 t ≡ fine n
    → Every (λ r. WellRead (record_of 2 r)) (records_of Track2.track2 t)
file_read_2 l t m n d e = well_read_2 t n (document_legible l t m d) e
