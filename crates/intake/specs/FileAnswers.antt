-- The whole call (RULES.md, 6 Answers for a file): one definition that fixes every answer, number, place and byte.
use Rattle.std.specs.Prelude.{ℕ, ◌-◌, cond, not, ◌||◌, List, ◌++◌, map, eqb, ltb, length, drop}
use Rattle.days.specs.Quarters.{is_period, first_day, last_day}
use Rattle.markup.specs.NamesAndValues.{Read}
use Rattle.markup.specs.NamesAndValues.Read.{refused, read}
use Rattle.markup.specs.Elements.{Tree}
use Rattle.markup.specs.Document.{document}
use Rattle.schema.specs.Shape.{Shape, fine, faulty, shape_of, records_of}
use Rattle.schemas.specs.Schemas.{schema_of}
use Rattle.model.specs.Machine.{run, answers, zeros, others}
use Rattle.register.specs.RoomAndEmptying.{room}
use Rattle.register.specs.State.{state_of, encode}
use Rattle.home_care.specs.Row.{siad}
use Rattle.home_care.specs.Record.{Record}
use Rattle.home_care.specs.Anomalies.{Context}
use Rattle.tracks.specs.RecordFields.{record_of}
use Rattle.tracks.specs.TooMany.{crowded_in}
use Rattle.soundness.specs.Sound.{is_sound}
use Rattle.checks.specs.CheckOrder.{siad_machine}

-- what a call is given besides the register
pub record Call : Type 0 where
  pub file : List ℕ
  pub track : ℕ
  pub year : ℕ
  pub quarter : ℕ
  pub answer_list : List ℕ

-- the call of these values
abbrev pub call_of : List ℕ → ℕ → ℕ → ℕ → List ℕ → Call
call_of file track year quarter answer_list =
    record { file = file; track = track; year = year; quarter = quarter; answer_list = answer_list }

-- what a call gives: the file's answer, the record number, the counts, the place, and the lent bytes afterwards
pub record Submitted : Type 0 where
  pub answer : ℕ
  pub number : ℕ
  pub records : ℕ
  pub accepted : ℕ
  pub discarded : ℕ
  pub place : ℕ
  pub register : List ℕ
  pub answers : List ℕ

-- F4: "The submission has more than 1,048,576 bytes"
abbrev pub longest : ℕ
longest = 1048576

-- a file's records, in file order
abbrev pub entries_of : ℕ → Tree → List Record
entries_of track t = map (record_of track) (records_of (schema_of track) t)

-- the quarter of a call, and the room of a register of n bytes
abbrev pub context_of : Call → ℕ → Context
context_of x n = record { first = first_day x.year x.quarter; last = last_day x.year x.quarter; room = room siad n }

-- of a call x, and the register before it
module _ (x : Call) (reg : List ℕ) where
  -- G4: "With 1 to 8 all three counts are 0, and no byte of register or answer list changes"
  abbrev pub refusal : ℕ → ℕ → ℕ → Submitted
  refusal answer number place =
      record {
        answer = answer;
        number = number;
        records = 0;
        accepted = 0;
        discarded = 0;
        place = place;
        register = reg;
        answers = x.answer_list;
      }

  -- G7: "Records are taken in file order, each judged against the register that the earlier ones left"; G6: "byte i - 1 of the answer list is record i's
  -- answer, and later bytes stay"
  abbrev pub taken_file : List Record → Submitted
  taken_file rs =
      let m = siad_machine (context_of x (length reg)) in
      let ns = answers m (state_of siad reg) rs in
      record {
        answer = 0;
        number = 0;
        records = length rs;
        accepted = zeros ns;
        discarded = others ns;
        place = 0;
        register = encode siad (length reg) (run m (state_of siad reg) rs);
        answers = ns ++ drop (length rs) x.answer_list;
      }

  -- 7, 8, 0
  abbrev pub of_shape : Tree → Submitted
  of_shape t =
      cond (not (eqb (crowded_in x.track t) 0)) (refusal 7 (crowded_in x.track t) 0)
      (cond (ltb (length x.answer_list) (length (entries_of x.track t))) (refusal 8 0 0) (taken_file (entries_of x.track t)))

  -- 6; G8: "the place is that of the first fault (S25, S26) of the record named", which the shape tells by the bytes left there; "with every other answer it
  -- is 0"
  abbrev pub by_shape : Tree → Shape → Submitted
  by_shape t (faulty number left) = refusal 6 number (length x.file - left)
  by_shape t (fine records) = of_shape t

  -- 5
  abbrev pub by_markup : Read Tree → Submitted
  by_markup refused = refusal 5 0 0
  by_markup (read t l) = by_shape t (shape_of (schema_of x.track) t)

  unfoldable pub submitted : Submitted
  submitted =
      cond (not (is_period x.year x.quarter)) (refusal 1 0 0)
      (cond (not (eqb x.track 1 || eqb x.track 2)) (refusal 2 0 0)
      (cond (not (is_sound reg)) (refusal 3 0 0)
      (cond (ltb longest (length x.file)) (refusal 4 0 0)
      (by_markup (document x.file)))))
