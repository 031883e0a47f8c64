-- What the code's steps through a file tell each other: a child of the root, a file that is taken, a report without counts.
use Rattle.std.specs.Prelude.{ℕ, ◌≤◌, ◌<◌, ◌≡◌, true, List, length, drop}
use Rattle.laws.specs.Lists.{same}
use Rattle.markup.specs.NamesAndValues.Read.{read}
use Rattle.markup.specs.Elements.{Tree, element, depth}
use Rattle.reading.specs.Everywhere.{Every}
use Rattle.schema.specs.Shape.{records_of}
use Rattle.tracks.specs.declared.record.Top.{Top}
use Rattle.schemas.specs.Schemas.{schema_of}
use Rattle.tracks.specs.Top.{TopOf}
use Rattle.intake.specs.FileAnswers.{Call}
use Rattle.intake.specs.Taking.{GoodRecord, assistenza}
use Rattle.intake.specs.declared.Report.{Report}
use Rattle.intake.specs.declared.records.Tally.{Tally}

-- the child a of a root stands at a place, with its children at hand; a record is good, and the list of so many bytes has a byte left for its answer
pub record Next (track : ℕ) (s : List ℕ) (at : ℕ) (top : Top) (before : Tally) (long : ℕ) (a : Tree) : Type 0 where
  pub tops : TopOf s at a top
  pub good : same assistenza a.named ≡ true → GoodRecord track a
  pub fits : same assistenza a.named ≡ true → before.records < long
  pub counts : before.accepted ≤ before.records

-- at a place stands the root t of a file that passed 1 to 8
pub record Whole (track : ℕ) (s : List ℕ) (root records long : ℕ) (t : Tree) : Type 0 where
  pub after : List ℕ
  pub reads : element depth (drop root s) ≡ read t after
  pub good : Every (GoodRecord track) (records_of (schema_of track) t)
  pub count : records ≡ length (records_of (schema_of track) t)
  pub fits : records ≤ long

-- the call x as the code holds it, its file, track and answer list apart
abbrev pub call_with : Call → List ℕ → ℕ → List ℕ → Call
call_with x file track answer_list =
    record { file = file; track = track; year = x.year; quarter = x.quarter; answer_list = answer_list }

-- G4: "With 1 to 8 all three counts are 0"
abbrev pub uncounted : ℕ → ℕ → ℕ → Report
uncounted answer number place = record { answer = answer; number = number; records = 0; accepted = 0; discarded = 0; place = place }
