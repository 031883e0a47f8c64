-- Each way out of `sound_wide`, from what the tests before it told.
use Prim.Native.Nat.{ℕ, ◌+◌, ◌-◌, ◌*◌, ◌≤◌, ◌<◌}
use mathlib.Core.Path.{◌≡◌, sym, ap, ◌∙◌}
use mathlib.Core.Bool.{Bool, true, false, ◌&&◌}
use mathlib.Core.List.{List}
use native.Mathlib.Omega.{arith}
use lib.Dec.{eqb, leb}
use lib.ListN.{length, take, drop, length-drop}
use lib.Seq.{take_all}
use borrow.Author.Tests.{leb-true, le-leb, lt-leb}
use Rattle.laws.specs.Lists.{all}
use Rattle.laws.proofs.Truth.{and_left, and_right}
use Rattle.model.specs.Map.{has}
use Rattle.register.specs.Layout.{case_named, case_rest, cases_held, events_held, row_at, row_in}
use Rattle.register.specs.RoomAndEmptying.{room}
use Rattle.register.specs.State.{split, cases_from, events_from, state_of, used}
use Rattle.register.specs.Stored.{events as event_group, split_of}
use Rattle.register.specs.Sound.{ascending, events_of, valid}
use Rattle.register.proofs.From.{from-length}
use Rattle.register.proofs.States.{room_holds}
use Rattle.home_care.specs.Row.{row_bytes, home_care}
use Rattle.home_care.specs.Allowed.{case_row_allowed_wide, event_row_allowed_wide}
use Rattle.soundness.specs.Sound.{home_care_rules, is_sound_wide, is_sound}
use Rattle.soundness.proofs.OnePass.{state}

module _ (w : ℕ) where
  pub too_short : (reg : List ℕ) → length reg < 4 → false ≡ is_sound_wide w reg
  too_short reg h = rw (lt-leb 4 (length reg) h)

  module _ (reg : List ℕ) (cases events : ℕ) (ec : cases ≡ cases_held reg) (ee : events ≡ events_held reg) (long : 4 ≤ length reg) where
    abbrev rows : ℕ
    rows = cases + events

    abbrev good : Bool
    good = valid (home_care w) (home_care_rules w) (length reg) (state w reg cases rows)

    abbrev tail : Bool
    tail = all (λ b. eqb b 0) (drop (4 + w * rows) reg)

    whole : is_sound_wide w reg ≡ good && tail
    whole =
        let e : cases_held reg + events_held reg - cases_held reg ≡ events_held reg = omega arith in
        rw (le-leb 4 (length reg) long, ec, ee, e, from-length (λ j. split (case_rest (home_care w)) (row_in (home_care w) reg j)) 0 (cases_held reg), from-length (λ j. split_of event_group (home_care w) (row_in (home_care w) reg j)) (cases_held reg) (events_held reg))

    pub no_room : room (home_care w) (length reg) < rows → false ≡ is_sound_wide w reg
    no_room h =
        let e : rows ≡ cases + (rows - cases) = omega arith in
        let n : leb (length (cases_from (home_care w) reg 0 cases) + length (events_from (home_care w) reg cases (rows - cases))) (room (home_care w) (length reg)) ≡ false =
        rw (from-length (λ j. split (case_rest (home_care w)) (row_in (home_care w) reg j)) 0 cases, from-length (λ j. split_of event_group (home_care w) (row_in (home_care w) reg j)) cases (rows - cases), ← e) (lt-leb rows (room (home_care w) (length reg)) h) in
        sym (whole ∙ rw n)

    pub not_valid : (v : Bool) → v ≡ good → v ≡ false → false ≡ is_sound_wide w reg
    not_valid v g f = sym (whole ∙ rw (sym g ∙ f))

    pub by_tail : (v z : Bool) → v ≡ good → v ≡ true → z ≡ all (λ b. eqb b 0) (take (length reg - (4 + w * rows)) (drop (4 + w * rows) reg)) → z ≡ is_sound_wide w reg
    by_tail v z g f e =
        let l : length (drop (4 + w * rows) reg) ≤ length reg - (4 + w * rows) = rw length-drop (omega arith) in
        e ∙ ap (all (λ b. eqb b 0)) (take_all (length reg - (4 + w * rows)) (drop (4 + w * rows) reg) l) ∙ sym (whole ∙ rw (sym g ∙ f))

  -- ---- what soundness tells

  pub record SoundFacts (reg : List ℕ) : Type 0 where
    pub long : 4 ≤ length reg
    pub few : cases_held reg + events_held reg ≤ room (home_care w) (length reg)
    pub case_rows : all (case_row_allowed_wide w) (state_of (home_care w) reg).cases ≡ true
    pub event_rows_lem : all (event_row_allowed_wide w) (state_of (home_care w) reg).events ≡ true
    pub cases_up : ascending (state_of (home_care w) reg).cases ≡ true
    pub events_up : ascending (state_of (home_care w) reg).events ≡ true
    pub stand : all (λ e. has (case_named (home_care w) e.key) (state_of (home_care w) reg).cases) (state_of (home_care w) reg).events ≡ true
    pub free : all (λ c. (home_care_rules w).together c.key (events_of (home_care w) c.key (state_of (home_care w) reg).events)) (state_of (home_care w) reg).cases ≡ true
    pub tail : all (λ b. eqb b 0) (drop (used (home_care w) (state_of (home_care w) reg)) reg) ≡ true

  pub wide_told : (reg : List ℕ) → is_sound_wide w reg ≡ true → SoundFacts reg
  wide_told reg h =
      let n = length reg in
      let s = state_of (home_care w) reg in
      let v = and_right (leb 4 n) _ h in
      let q = and_left (valid (home_care w) (home_care_rules w) n s) (all (λ b. eqb b 0) (drop (used (home_care w) s) reg)) v in
      let a = and_right (leb (length s.cases + length s.events) (room (home_care w) n)) _ q in
      let rows = and_left (all (case_row_allowed_wide w) s.cases && all (event_row_allowed_wide w) s.events) _ a in
      let b = and_right (all (case_row_allowed_wide w) s.cases && all (event_row_allowed_wide w) s.events) _ a in
      let up = and_left (ascending s.cases && ascending s.events) _ b in
      let c = and_right (ascending s.cases && ascending s.events) _ b in
      let l = leb-true (length s.cases + length s.events) (room (home_care w) n) (and_left (leb (length s.cases + length s.events) (room (home_care w) n)) _ q) in
      record {
        long = leb-true 4 n (and_left (leb 4 n) _ h);
        few = rw (from-length (λ j. split (case_rest (home_care w)) (row_in (home_care w) reg j)) 0 (cases_held reg), from-length (λ j. split_of event_group (home_care w) (row_in (home_care w) reg j)) (cases_held reg) (events_held reg)) at l;
        case_rows = and_left (all (case_row_allowed_wide w) s.cases) _ rows;
        event_rows_lem = and_right (all (case_row_allowed_wide w) s.cases) _ rows;
        cases_up = and_left (ascending s.cases) _ up;
        events_up = and_right (ascending s.cases) _ up;
        stand = and_left (all (λ e. has (case_named (home_care w) e.key) s.cases) s.events) _ c;
        free = and_right (all (λ e. has (case_named (home_care w) e.key) s.cases) s.events) _ c;
        tail = and_right (valid (home_care w) (home_care_rules w) n s) (all (λ b. eqb b 0) (drop (used (home_care w) s) reg)) v;
      }

  -- the cases of a sound register lie within it
  pub cases_within : (reg : List ℕ) → SoundFacts reg → row_at (home_care w) (cases_held reg) ≤ length reg
  cases_within reg f = (room_holds (home_care w) (length reg) (cases_held reg) f.long (let b = f.few in omega arith)).1

-- of the register's own rows
pub sound_told : (reg : List ℕ) → is_sound reg ≡ true → SoundFacts row_bytes reg
unfolding is_sound
sound_told reg h = wide_told row_bytes reg h
