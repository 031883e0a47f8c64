-- What sound means (RULES.md, 5), taken apart: what stands, condition by condition, and put together again.
use Prim.Native.Nat.{ℕ, ◌+◌, ◌≤◌}
use mathlib.Core.Path.{◌≡◌, refl, sym, ap, ◌∙◌}
use mathlib.Core.Bool.{Bool, true, false, not, ◌&&◌, ◌||◌, true≢false, false≢true}
use mathlib.Core.List.{List, [], ◌∷◌, map}
use lib.Dec.{eqb, ltb, leb}
use lib.ListN.{length}
use borrow.Author.Tests.{leb-true, le-leb, ne_eqb, not-true}
use Rattle.laws.specs.Lists.{all, any, some_pair}
use Rattle.laws.proofs.Truth.{or_left}
use Rattle.laws.proofs.Every.{or_tell, not_tell}
use Rattle.model.specs.Map.{Row, Map, has}
use Rattle.model.specs.Flow.{State, Good}
use Rattle.rows.specs.Packing.{each, Fit}
use Rattle.register.specs.Layout.{case_named}
use Rattle.register.specs.RoomAndEmptying.{room}
use Rattle.register.specs.State.{state_of}
use Rattle.register.specs.Stored.{Fits, cases, events}
use Rattle.register.specs.Sound.{ascending, events_of, valid}
use Rattle.register.proofs.Ascending.{asc_told, asc_tell}
use Rattle.register.proofs.SoundLaws.{sound_valid}
use Rattle.home_care.specs.Row.{siad, taken_in, event_number_in, date_of, end_of}
use Rattle.home_care.specs.Anomalies.{is_suspension, t23, t25, t26, t27, t28}
use Rattle.home_care.specs.Allowed.{case_row_allowed, event_row_allowed}
use Rattle.home_care.proofs.Laid.{laid_siad}
use Rattle.soundness.specs.Sound.{events_free, siad_rules, is_sound}
use Rattle.soundness.proofs.SoundLaws.{sound_is_stored}
use Rattle.checks.proofs.RowTests.{all-key, key-all, keep_no}

-- what stands is valid in a register of n bytes, and its rows have their sizes
pub record Sound (n : ℕ) (s : State ℕ ℕ) : Type 0 where
  pub is_valid : valid siad siad_rules n s ≡ true
  pub cases_fit : Fits cases siad s.cases
  pub events_fit : Fits events siad s.events

-- the state of a sound register
pub sound_state : (reg : List ℕ) → Fit (each 8 reg) → is_sound reg ≡ true → Sound (length reg) (state_of siad reg)
unfolding is_sound
sound_state reg f h =
    let s = sound_is_stored reg f h in
    record { is_valid = sound_valid siad laid_siad siad_rules reg f h; cases_fit = s.cases_fit; events_fit = s.events_fit }

-- the events of the case k among m are free of 25 to 28 and 23
abbrev pub free_of : ℕ → Map ℕ → Bool
free_of k m = events_free (taken_in k) (map event_number_in (events_of siad k m))

pub record Parts (n : ℕ) (s : State ℕ ℕ) : Type 0 where
  pub few : length s.cases + length s.events ≤ room siad n
  pub cases_allowed : all case_row_allowed s.cases ≡ true
  pub events_allowed : all event_row_allowed s.events ≡ true
  pub good : Good s
  pub tied : (k : ℕ) → has k s.events ≡ true → has (case_named siad k) s.cases ≡ true
  pub free : (k : ℕ) → has k s.cases ≡ true → free_of k s.events ≡ true

seven : (a b c d e f g : Bool) → a && ((b && c) && ((d && e) && (f && g))) ≡ true →
    (a ≡ true) × (b ≡ true) × (c ≡ true) × (d ≡ true) × (e ≡ true) × (f ≡ true) × (g ≡ true)
seven true true true true true true true h = (refl, refl, refl, refl, refl, refl, refl)
seven true true true true true true false h = absurd (false≢true h)
seven true true true true true false g h = absurd (false≢true h)
seven true true true true false f g h = absurd (false≢true h)
seven true true true false e f g h = absurd (false≢true h)
seven true true false d e f g h = absurd (false≢true h)
seven true false c d e f g h = absurd (false≢true h)
seven false b c d e f g h = absurd (false≢true h)

seven_back : (a b c d e f g : Bool) → a ≡ true → b ≡ true → c ≡ true → d ≡ true → e ≡ true → f ≡ true → g ≡ true →
    a && ((b && c) && ((d && e) && (f && g))) ≡ true
seven_back a b c d e f g p q r t u v w = simp (p, q, r, t, u, v, w)

module _ (n : ℕ) (s : State ℕ ℕ) where
  abbrev fewer : Bool
  fewer = leb (length s.cases + length s.events) (room siad n)

  abbrev linked : Bool
  linked = all (λ e. has (case_named siad e.key) s.cases) s.events

  abbrev freed : Bool
  freed = all (λ c. free_of c.key s.events) s.cases

  pub parts_of : valid siad siad_rules n s ≡ true → Parts n s
  parts_of h =
      let p = seven fewer (all case_row_allowed s.cases) (all event_row_allowed s.events) (ascending s.cases) (ascending s.events) linked freed h in
      record {
        few = leb-true (length s.cases + length s.events) (room siad n) p.0;
        cases_allowed = p.1;
        events_allowed = p.2;
        good = (asc_told s.cases p.3, asc_told s.events p.4);
        tied = all-key (λ k. has (case_named siad k) s.cases) s.events p.5;
        free = all-key (λ k. free_of k s.events) s.cases p.6;
      }

  pub valid_of : Parts n s → valid siad siad_rules n s ≡ true
  valid_of p =
      seven_back fewer (all case_row_allowed s.cases) (all event_row_allowed s.events) (ascending s.cases) (ascending s.events) linked freed
      (le-leb (length s.cases + length s.events) (room siad n) p.few)
      p.cases_allowed p.events_allowed
      (asc_tell 0 s.cases p.good.0) (asc_tell 0 s.events p.good.1)
      (key-all (λ k. has (case_named siad k) s.cases) s.events p.tied)
      (key-all (λ k. free_of k s.events) s.cases p.free)

  -- where a case does not stand, it has no events
  pub free_any : Parts n s → (k : ℕ) → free_of k s.events ≡ true
  unfolding any some_pair
  free_any p k = go (has k s.cases) refl
    where
      none : has k s.cases ≡ false → (j : ℕ) → has j s.events ≡ true → eqb (case_named siad j) k ≡ false
      none e j h = ne_eqb (case_named siad j) k (λ q. true≢false (sym (p.tied j h) ∙ ap (λ (i : ℕ). has i s.cases) q ∙ e))

      go : (b : Bool) → has k s.cases ≡ b → free_of k s.events ≡ true
      go true e = p.free k e
      go false e = rw (keep_no (λ j. eqb (case_named siad j) k) s.events (none e))

-- 23 as a test of every row
abbrev pub ends : Row ℕ → Bool
ends r = not (is_suspension (event_number_in r) && ltb (end_of (event_number_in r)) (date_of (event_number_in r)))

pub all-ends : (m : Map ℕ) → t23 (map event_number_in m) ≡ not (all ends m)
unfolding any all
all-ends [] = refl
all-ends (r ∷ m) = go (is_suspension (event_number_in r) && ltb (end_of (event_number_in r)) (date_of (event_number_in r))) (all-ends m)
  where
    go : (b : Bool) → t23 (map event_number_in m) ≡ not (all ends m) → b || t23 (map event_number_in m) ≡ not (not b && all ends m)
    go true ih = refl
    go false ih = ih

-- free of the five, one by one
pub five : (t : ℕ) (es : List ℕ) → t23 es ≡ false → t25 t es ≡ false → t26 es ≡ false → t27 es ≡ false → t28 es ≡ false → events_free t es ≡ true
five t es a b c d e =
    not_tell (t23 es || (t25 t es || (t26 es || (t27 es || t28 es))))
    (or_tell (t23 es) (t25 t es || (t26 es || (t27 es || t28 es))) a
    (or_tell (t25 t es) (t26 es || (t27 es || t28 es)) b (or_tell (t26 es) (t27 es || t28 es) c (or_tell (t27 es) (t28 es) d e))))

pub free_23 : (t : ℕ) (es : List ℕ) → events_free t es ≡ true → t23 es ≡ false
free_23 t es h = or_left (t23 es) (t25 t es || (t26 es || (t27 es || t28 es))) (not-true _ h)
