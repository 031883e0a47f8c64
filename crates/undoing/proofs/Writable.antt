-- An answer of 0: the events that are chosen are such as a cancellation file names.
use Prim.Native.Nat.{ℕ, ◌^◌, ◌≤◌, ◌<◌}
use mathlib.Core.Path.{◌≡◌, refl}
use mathlib.Core.Bool.{true, false, ◌&&◌, ◌||◌, false≢true}
use mathlib.Core.List.{List, [], ◌∷◌, map}
use native.Mathlib.Omega.{arith}
use lib.Dec.{eqb, ltb}
use lib.ListN.{length, length-map}
use borrow.Author.Tests.{lt-ltb, not-true}
use Rattle.laws.specs.Lists.{all}
use Rattle.laws.proofs.Truth.{and_left, and_right, or_left, or_right}
use Rattle.laws.proofs.Every.{and_tell}
use Rattle.model.specs.Map.{Map, find, has}
use Rattle.model.specs.Flow.{State}
use Rattle.model.proofs.MapSizes.{size_keep}
use Rattle.rows.specs.Packing.{each, Fit}
use Rattle.register.specs.Layout.{case_named}
use Rattle.register.specs.State.{state_of}
use Rattle.register.specs.Sound.{events_of}
use Rattle.home_care.specs.Row.{row_bytes, siad, taken_in, event_bits, event_in, event_number_in}
use Rattle.home_care.specs.Allowed.{event_allowed, event_row_allowed}
use Rattle.home_care.specs.Anomalies.{t23, t25, t26, t27, t28}
use Rattle.home_care.proofs.EventKeys.{narrow}
use Rattle.soundness.specs.Sound.{events_free}
use Rattle.checks.proofs.RowTests.{all_keep}
use Rattle.checks.proofs.Valid.{Sound, Parts, sound_state, parts_of, free_any, free_23}
use Rattle.days.specs.Quarters.{first_day, last_day}
use Rattle.cancellation.specs.Chosen.{those, dated_in}
use Rattle.cancellation.specs.FileText.{CaseTexts}
use Rattle.cancellation.specs.CancelFile.{case_told}
use Rattle.undoing.specs.ReadBack.{bits_allowed, most_chosen, Writable}
use Rattle.undoing.proofs.Those.{those_few, all-those, any-those, pair_those}
use Rattle.undoing.proofs.ChosenRows.{picked_climbs}
use Rattle.undoing.proofs.CallPassed.{CallPassed, named}

-- where a key stands, a row does
has_some : (k : ℕ) (m : Map ℕ) → has k m ≡ true → 0 < length m
unfolding find
has_some k [] h = absurd (false≢true h)
has_some k (r ∷ m) h = omega arith

-- the events of rows that are allowed
allowed_each : (m : Map ℕ) → all event_row_allowed m ≡ true → all bits_allowed (map event_number_in m) ≡ true
unfolding all
allowed_each [] h = refl
allowed_each (r ∷ m) h =
    let e : ℕ = event_number_in r in
    and_tell (ltb e (2 ^ event_bits) && event_allowed (event_in e)) _
    (and_tell (ltb e (2 ^ event_bits)) (event_allowed (event_in e)) (lt-ltb e (2 ^ event_bits) (narrow row_bytes r))
    (and_left (event_allowed (event_in e)) _ (and_left (event_row_allowed r) (all event_row_allowed m) h)))
    (allowed_each m (and_right (event_row_allowed r) (all event_row_allowed m) h))

-- free of the five, and so of 27
free_27 : (t : ℕ) (es : List ℕ) → events_free t es ≡ true → t27 es ≡ false
free_27 t es h =
    let a = or_right (t23 es) (t25 t es || (t26 es || (t27 es || t28 es))) (not-true _ h) in
    let b = or_right (t25 t es) (t26 es || (t27 es || t28 es)) a in
    or_left (t27 es) (t28 es) (or_right (t26 es) (t27 es || t28 es) b)

module _ (n : ℕ) (s : State ℕ ℕ) (v : Sound n s) (c first last : ℕ) where
  abbrev held : Map ℕ
  held = events_of siad c s.events

  abbrev picked : List ℕ
  picked = those (dated_in first last) (map event_number_in held)

  p : Parts n s
  p = parts_of n s v.is_valid

  -- no more than stand beside the case's row
  picked_few : has c s.cases ≡ true → length picked ≤ most_chosen
  picked_few h =
      omega (
        arith,
        those_few (dated_in first last) (map event_number_in held),
        length-map held event_number_in,
        size_keep (λ k. eqb (case_named siad k) c) s.events,
        has_some c s.cases h,
        p.few,
      )

  -- each with the values that its kind allows
  picked_allowed : all bits_allowed picked ≡ true
  picked_allowed =
      all-those (dated_in first last) _ (map event_number_in held)
      (allowed_each held (all_keep event_row_allowed (λ k. eqb (case_named siad k) c) s.events p.events_allowed))

  -- no two Conclusione
  picked_concluded : t27 picked ≡ false
  picked_concluded = pair_those (dated_in first last) _ (map event_number_in held) (free_27 (taken_in c) (map event_number_in held) (free_any n s p c))

  -- no suspension among them ends before it begins
  pub picked_ends : t23 picked ≡ false
  picked_ends = any-those (dated_in first last) _ (map event_number_in held) (free_23 (taken_in c) (map event_number_in held) (free_any n s p c))

module _ (reg : List ℕ) (f : Fit (each 8 reg)) (x : CaseTexts) (year quarter : ℕ) where
  -- a call that passed the tests has texts and events that a file may be written of
  pub writable : CallPassed reg x year quarter → Writable x (named reg x year quarter)
  writable t =
      let s : State ℕ ℕ = state_of siad reg in
      let v : Sound (length reg) s = sound_state reg f t.sound in
      let p : Parts (length reg) s = parts_of (length reg) s v.is_valid in
      record {
        texts = t.texts;
        some = t.some;
        few = picked_few (length reg) s v (case_told x) (first_day year quarter) (last_day year quarter) t.stands;
        allowed = picked_allowed (length reg) s v (case_told x) (first_day year quarter) (last_day year quarter);
        confirmed = t.confirmed;
        climbs = picked_climbs (case_told x) (first_day year quarter) (last_day year quarter) s.events p.good.1 v.events_fit;
        concluded = picked_concluded (length reg) s v (case_told x) (first_day year quarter) (last_day year quarter);
      }
