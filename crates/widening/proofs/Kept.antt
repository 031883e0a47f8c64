-- A converted register is sound and holds what the old one holds (RULES.md, T6), and no conversion changes a register's length.
use Prim.Native.Nat.{ℕ, ◌+◌, ◌-◌, ◌*◌, ◌≤◌}
use mathlib.Core.Path.{◌≡◌, refl, sym, ap, ap₂, ◌∙◌}
use mathlib.Core.Bool.{true}
use mathlib.Core.List.{List, ◌++◌, append_assoc}
use native.Mathlib.Omega.{arith}
use lib.Dec.{eqb}
use lib.ListN.{length, take, replicate, length-append, length-replicate, length-map}
use lib.Seq.{length-take-le}
use Rattle.laws.specs.Lists.{all}
use Rattle.model.specs.Flow.{State}
use Rattle.rows.specs.Packing.{each, Fit, digits}
use Rattle.register.specs.Layout.{case_rest, event_rest, cases_held, events_held, row_at, row_in}
use Rattle.register.specs.RoomAndEmptying.{room}
use Rattle.register.specs.State.{rows_bytes, state_of, used, encode}
use Rattle.register.specs.Stored.{Stored, cases, events, split_of}
use Rattle.register.proofs.From.{from-length}
use Rattle.register.proofs.SoundLaws.{sound_of, sound_stored}
use Rattle.register.proofs.States.{state_encode, room_holds}
use Rattle.home_care.specs.Row.{row_bytes, old_bytes, home_care, siad, evaluation_in}
use Rattle.home_care.specs.Allowed.{event_row_allowed_wide}
use Rattle.home_care.proofs.Laid.{laid_wide, laid_siad, old_width}
use Rattle.soundness.specs.Sound.{home_care_rules, siad_rules, is_sound_wide, is_sound}
use Rattle.soundness.proofs.Deciding.{SoundFacts, wide_told}
use Rattle.widening.specs.Converted.{rows_held, widened, in_bytes, converted}
use Rattle.widening.specs.Widened.{wide_row, Widened}
use Rattle.widening.proofs.Answers.{rows_within, by_answer}
use Rattle.widening.proofs.Laying.{widened_append, widened-length}
use Rattle.widening.proofs.WideRows.{case_fields_lem, event_fields, none_kept}
use Rattle.widening.proofs.WideState.{wide_state, rows_wide, wide_asc, wide_fits, all_wide, wide_valid}

-- what is laid in n bytes has n bytes
laid_length : (n : ℕ) (old : List ℕ) → is_sound_wide old_bytes old ≡ true → row_at siad (rows_held old) ≤ n → length (in_bytes n old) ≡ n
laid_length n old s r =
    let h : 4 + old_bytes * rows_held old ≤ length old = rows_within old s in
    let w : List ℕ = widened old 0 (rows_held old) in
    let z : List ℕ = replicate (n - row_at siad (rows_held old)) 0 in
    let e : 0 + rows_held old ≡ rows_held old = omega arith in
    let lc : length (take 4 old) ≡ 4 = length-take-le 4 old (omega arith) in
    let lw : length w ≡ row_bytes * rows_held old = widened-length old 0 (rows_held old) (rw e h) in
    let lz : length z ≡ n - row_at siad (rows_held old) = length-replicate {A = ℕ} (n - row_at siad (rows_held old)) 0 in
    length-append (take 4 old) (w ++ z) ∙ omega (arith, length-append w z)

module _ (old : List ℕ) (f : Fit (each 8 old)) (sound : is_sound_wide old_bytes old ≡ true) where
  abbrev before : State ℕ ℕ
  before = state_of (home_care old_bytes) old

  abbrev now : State ℕ ℕ
  now = wide_state before

  facts : SoundFacts old_bytes old
  facts = wide_told old_bytes old sound

  stored : Stored (home_care old_bytes) old before
  stored = sound_stored (home_care old_bytes) (laid_wide old_bytes old_width) (home_care_rules old_bytes) old f sound

  -- as many rows
  cases_many : length now.cases ≡ cases_held old
  cases_many = length-map before.cases wide_row ∙ from-length (λ j. split_of cases (home_care old_bytes) (row_in (home_care old_bytes) old j)) 0 (cases_held old)

  events_many : length now.events ≡ events_held old
  events_many =
      length-map before.events wide_row ∙ from-length (λ j. split_of events (home_care old_bytes) (row_in (home_care old_bytes) old j)) (cases_held old) (events_held old)

  rows_many : length now.cases + length now.events ≡ rows_held old
  rows_many = ap₂ ◌+◌ cases_many events_many

  -- the counts
  counts : take 4 old ≡ digits 2 (length now.cases) ++ digits 2 (length now.events)
  unfolding encode
  counts =
      ap (take 4) stored.bytes
      ∙ ap₂ (λ (c e : ℕ). digits 2 c ++ digits 2 e) (sym (length-map before.cases wide_row)) (sym (length-map before.events wide_row))

  -- the rows
  rows : widened old 0 (rows_held old) ≡ rows_bytes siad (case_rest siad) now.cases ++ rows_bytes siad (event_rest siad) now.events
  rows =
      let h : 4 + old_bytes * rows_held old ≤ length old = rows_within old sound in
      let e : 0 + cases_held old ≡ cases_held old = omega arith in
      widened_append old 0 (cases_held old) (events_held old)
      ∙ ap (λ (k : ℕ). widened old 0 (cases_held old) ++ widened old k (events_held old)) e
      ∙ ap₂ (λ (x y : List ℕ). x ++ y) (sym (rows_wide cases old f 0 (cases_held old) (omega arith))) (sym (rows_wide events old f (cases_held old) (events_held old) h))

  -- what is laid is the widened state's encoding
  laid_encode : (n : ℕ) → in_bytes n old ≡ encode siad n now
  unfolding encode
  laid_encode n =
      let a : List ℕ = digits 2 (length now.cases) in
      let b : List ℕ = digits 2 (length now.events) in
      let c : List ℕ = rows_bytes siad (case_rest siad) now.cases in
      let e : List ℕ = rows_bytes siad (event_rest siad) now.events in
      let z : List ℕ = replicate (n - used siad now) 0 in
      ap₂ (λ (x y : List ℕ). x ++ (y ++ replicate (n - row_at siad (rows_held old)) 0)) counts rows
      ∙ ap (λ (k : ℕ). (a ++ b) ++ ((c ++ e) ++ replicate {A = ℕ} (n - row_at siad k) 0)) (sym rows_many)
      ∙ ap (λ (x : List ℕ). (a ++ b) ++ x) (append_assoc c e z)
      ∙ append_assoc a b (c ++ (e ++ z))

  module _ (n : ℕ) (long : 4 ≤ n) (few : rows_held old ≤ room siad n) where
    fits_room : row_at siad (rows_held old) ≤ n
    fits_room = (room_holds siad n (rows_held old) long few).1

    new_length : length (in_bytes n old) ≡ n
    new_length = laid_length n old sound fits_room

    new_few : length now.cases + length now.events ≤ room siad n
    new_few = rw rows_many few

    new_stored : Stored siad (in_bytes n old) now
    new_stored =
        record {
          bytes = laid_encode n ∙ ap (λ (k : ℕ). encode siad k now) (sym new_length);
          good = (wide_asc 0 before.cases stored.good.0, wide_asc 0 before.events stored.good.1);
          few = rw new_length new_few;
          cases_fit = wide_fits cases before.cases stored.cases_fit;
          events_fit = wide_fits events before.events stored.events_fit;
          long = rw new_length long;
        }

    pub laid_widened : Widened old (in_bytes n old)
    unfolding is_sound
    laid_widened =
        let state : state_of siad (in_bytes n old) ≡ now = state_encode siad laid_siad (in_bytes n old) now new_stored in
        record {
          sound = sound_of siad laid_siad siad_rules (in_bytes n old) now new_stored (wide_valid old (length (in_bytes n old)) facts (rw new_length new_few));
          cases = ap (λ (s : State ℕ ℕ). s.cases) state;
          events = ap (λ (s : State ℕ ℕ). s.events) state;
          case_fields_lem = case_fields_lem;
          event_fields = event_fields;
          none_kept = ap (λ (s : State ℕ ℕ). all (λ r. eqb (evaluation_in r) 0) s.events) state
              ∙ all_wide (event_row_allowed_wide old_bytes) (λ r. eqb (evaluation_in r) 0) none_kept before.events facts.event_rows_lem;
        }

-- T6: "The new one is sound; the same cases and events stand in it, with the same fields, and no Rivalutazione keeps an evaluation"
pub converted_widened : (old new : List ℕ) → Fit (each 8 old) → (converted old new).answer ≡ 0 → Widened old (converted old new).register
converted_widened old new f =
    by_answer old new (λ c. c.answer ≡ 0 → Widened old c.register)
    (λ e. absurd (omega arith)) (λ e. absurd (omega arith))
    (λ t e. laid_widened old f t.sound (length new) t.long t.few)

-- with any answer the new one has as many bytes as it had
pub length_kept : (old new : List ℕ) → length (converted old new).register ≡ length new
length_kept old new =
    by_answer old new (λ c. length c.register ≡ length new) refl refl
    (λ t. laid_length (length new) old t.sound (room_holds siad (length new) (rows_held old) t.long t.few).1)
