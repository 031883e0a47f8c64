-- A record of home care, as the code takes it: what it is read by, and the machine that it is given to.
use Rattle.std.specs.Prelude.{ℕ, ◌≤◌, ◌≡◌, false, List, eqb, length}
use Rattle.laws.specs.Lists.{bytes}
use Rattle.markup.specs.Elements.{Tree}
use Rattle.schema.specs.Shape.{fault_of}
use Rattle.tracks.specs.declared.record.Top.{Top}
use Rattle.model.specs.Flow.{State}
use Rattle.register.specs.State.{state_of, encode}
use Rattle.home_care.specs.Row.{siad}
use Rattle.home_care.specs.Record.{Record}
use Rattle.home_care.specs.Anomalies.{Context}
use Rattle.tracks.specs.RecordFields.{all_said, record_of}
use Rattle.tracks.specs.View.{each_of}
use Rattle.tracks.specs.Top.{TopOf}
use Rattle.tracks.specs.WellRead.{WellRead}
use Rattle.checks.specs.CheckOrder.{siad_machine}
use Rattle.intake.specs.Driving.{Driver}
use Rattle.schemas.specs.Parts.{most_events}

-- a record that is of the shape, its fields in range; no more events than 7 allows
pub record GoodRecord (track : ℕ) (a : Tree) : Type 0 where
  pub clean : fault_of (each_of track) a ≡ 0
  pub well : WellRead (record_of track a)
  pub few : eqb track 1 ≡ false → length (all_said a) ≤ most_events

-- and stands at a place, with its children at hand
pub record Here (track : ℕ) (s : List ℕ) (top : Top) (a : Tree) : Type 0 where
  pub good : GoodRecord track a
  pub at : ℕ
  pub tops : TopOf s at a top

abbrev pub assistenza : List ℕ
assistenza = bytes "Assistenza"

-- a track's records, judged in a quarter and a room
abbrev pub siad_driver : ℕ → Context → Driver (State ℕ ℕ) Record
siad_driver track c =
    record {
      machine = siad_machine c;
      state_of = state_of siad;
      encode = encode siad;
      named = assistenza;
      record_of = record_of track;
      good = GoodRecord track;
    }
