-- A record of Track 2: what the code holds of its events, and its two ways out.
use Prim.Native.Nat.{ℕ, suc, ◌^◌, ◌≤◌, ◌<◌}
use mathlib.Core.Path.{◌≡◌, refl, sym, ap, ◌∙◌}
use mathlib.Core.Bool.{true}
use mathlib.Core.List.{List, [], ◌∷◌, ◌++◌, map}
use native.Mathlib.Omega.{arith}
use lib.Dec.{ltb}
use lib.ListN.{length, take, drop, length-take}
use lib.Seq.{take_all, take_at}
use Rattle.laws.specs.Lists.{all}
use Rattle.laws.proofs.Truth.{and_left, and_right}
use borrow.Author.Tests.{lt-ltb}
use Rattle.laws.proofs.Every.{and_tell}
use Rattle.markup.specs.Elements.{Tree}
use Rattle.tracks.specs.declared.record.Top.{Top}
use Rattle.model.specs.Checks.{first}
use Rattle.model.specs.Flow.{State}
use Rattle.rows.specs.Packing.{each, Fit}
use Rattle.register.specs.RoomAndEmptying.{room}
use Rattle.register.specs.State.{state_of}
use Rattle.register.specs.Search.{probe_key}
use Rattle.register.specs.Stored.{Stored}
use Rattle.home_care.specs.Row.{event_bits, evaluation_bits, key_number, siad, row_bytes, key_bits}
use Rattle.home_care.specs.Record.{Head, Said, events, event_numbers, evaluations}
use Rattle.home_care.specs.Anomalies.{Context}
use Rattle.tracks.specs.RecordFields.{head_of, all_said}
use Rattle.tracks.specs.View.{laid, IsEvents}
use Rattle.tracks.specs.Top.{OfShape}
use Rattle.tracks.specs.declared.events.EventsRead.{EventsRead}
use Rattle.soundness.specs.Sound.{is_sound}
use Rattle.checks.specs.Flow.{next}
use Rattle.checks.specs.CheckOrder.{checks_of}
use Rattle.checks.specs.Readable.{event_readable, Readable}
use Rattle.checks.proofs.RowsAllowed.{number_lt, evaluation_lt}
use Rattle.checks.proofs.WellReadable.{readable}
use Rattle.judge.specs.View.{IsOf, IsSaid}
use Rattle.apply.specs.Events.{ListedIn}
use Rattle.intake.specs.Driving.{Took}
use Rattle.intake.specs.Taking.{Here, siad_driver}
use Rattle.intake.proofs.SoundBytes.{sound_stored}
use Rattle.intake.proofs.RecordRead.{of_shape, record_2}
use Rattle.intake.proofs.RecordTaken.{discarded, accepted}
use Rattle.schemas.specs.Parts.{most_events}

-- a list of one number of each event, as reading and judging say it
module _ (f : Said → ℕ) (list : List Said → List ℕ) (none : list [] ≡ []) (more : (e : Said) (es : List Said) → list (e ∷ es) ≡ f e ∷ list es) where
  listed_map : (es : List Said) → map f es ≡ list es
  listed_map [] = sym none
  listed_map (e ∷ es) = ap (λ (l : List ℕ). f e ∷ l) (listed_map es) ∙ sym (more e es)

  listed_count : (es : List Said) → length (list es) ≡ length es
  listed_count [] = ap length none
  listed_count (e ∷ es) = ap length (more e es) ∙ ap suc (listed_count es)

  listed_small : (n : ℕ) → ((e : Said) → event_readable e ≡ true → f e < n) → (es : List Said) → all event_readable es ≡ true → all (λ m. ltb m n) (list es) ≡ true
  unfolding all
  listed_small n g [] h = ap (all (λ m. ltb m n)) none
  listed_small n g (e ∷ es) h =
      ap (all (λ m. ltb m n)) (more e es)
      ∙ and_tell (ltb (f e) n) (all (λ m. ltb m n) (list es)) (lt-ltb (f e) n (g e (and_left (event_readable e) (all event_readable es) h)))
      (listed_small n g es (and_right (event_readable e) (all event_readable es) h))

  -- what lies in a buffer of 128 numbers after the events are read into it
  module _ (es : List Said) (k : ℕ) (count : k ≡ length es) (few : length es ≤ most_events) (buffer held : List ℕ) (wide : length buffer ≡ most_events)
      (lies : held ≡ laid (map f es) buffer) where
    lying : held ≡ list es ++ drop (length (list es)) buffer
    lying =
        lies ∙ ap (λ (l : List ℕ). laid l buffer) (listed_map es)
        ∙ ap (λ (l : List ℕ). l ++ drop (length (list es)) buffer) (take_all (length buffer) (list es) (omega (arith, listed_count es, few, wide)))

    listed_are : take k held ≡ list es
    listed_are = rw lying (take_at (list es) _ k (listed_count es ∙ sym count))

    listed_there : k ≡ length (take k held)
    listed_there = count ∙ sym (listed_count es) ∙ ap length (sym listed_are)

    listed_inside : k ≤ length held
    listed_inside = omega (arith, simp length-take at (sym listed_there))

-- the events' 52 bits, and their evaluations
number_more : (e : Said) (es : List Said) → event_numbers (e ∷ es) ≡ e.event ∷ event_numbers es
unfolding event_numbers
number_more e es = refl

number_none : event_numbers [] ≡ []
unfolding event_numbers
number_none = refl

evaluation_more : (e : Said) (es : List Said) → evaluations (e ∷ es) ≡ e.evaluation ∷ evaluations es
unfolding evaluations
evaluation_more e es = refl

evaluation_none : evaluations [] ≡ []
unfolding evaluations
evaluation_none = refl

-- the events read into two buffers: as many as were counted, no more than 128, each in its 52 bits and 47
pub record EventsHeld (r : EventsRead) (evs kept : List ℕ) : Type 0 where
  pub all_there : r.count ≡ length (take r.count evs)
  pub no_more : length (take r.count evs) ≤ most_events
  pub inside : r.count ≤ length evs
  pub small : all (λ e. ltb e (2 ^ event_bits)) (take r.count evs) ≡ true
  pub kept_inside : r.count ≤ length kept
  pub kept_small : all (λ v. ltb v (2 ^ evaluation_bits)) (take r.count kept) ≡ true
  pub alike : length (take r.count kept) ≡ length (take r.count evs)

-- judged with the answer n: the two ways out
pub record EventsWays (r : EventsRead) (evs kept : List ℕ) (tipo : ℕ) (probe reg : List ℕ) (c : Context) (n : ℕ) (a : Tree) : Type 0 where
  pub discarded : (n ≡ 0 → ⊥) → Took (siad_driver 2 c) reg a n reg
  pub accepted : n ≡ 0 → c.room ≡ room siad (length reg) → (later : List ℕ) →
      ((g : Head) (es : List Said) (t : State ℕ ℕ) (d : Context) → key_number g.key ≡ probe_key row_bytes key_bits probe → tipo ≡ g.tipo →
      ListedIn (take r.count evs) (take r.count kept) es → d.room ≡ room siad (length reg) → Stored siad reg t → first (checks_of d (events g es)) t ≡ 0 →
      Stored siad later (next (events g es) t)) →
      length later ≡ length reg → Took (siad_driver 2 c) reg a n later

module _ (s : List ℕ) (top : Top) (r : EventsRead) (buffer evs beside kept : List ℕ) (wide : length buffer ≡ most_events) (wide-beside : length beside ≡ most_events)
    (told : (a : Tree) → OfShape 2 s top a → IsEvents r buffer evs beside kept (all_said a))
    (a : Tree) (x : Here 2 s top a) where
  is_events : IsEvents r buffer evs beside kept (all_said a)
  is_events = told a (of_shape x)

  readable_2 : Readable (events (head_of a) (all_said a))
  readable_2 = readable (events (head_of a) (all_said a)) (rw (record_2 a) at x.good.well)

  few : length (all_said a) ≤ most_events
  few = x.good.few refl

  events_are : take r.count evs ≡ event_numbers (all_said a)
  events_are = listed_are (λ e. e.event) event_numbers number_none number_more (all_said a) r.count is_events.count few buffer evs wide is_events.numbers

  kept_are : take r.count kept ≡ evaluations (all_said a)
  kept_are = listed_are (λ e. e.evaluation) evaluations evaluation_none evaluation_more (all_said a) r.count is_events.count few beside kept wide-beside is_events.evaluations

  pub events_held_lem : EventsHeld r evs kept
  events_held_lem =
      let there = listed_there (λ e. e.event) event_numbers number_none number_more (all_said a) r.count is_events.count few buffer evs wide is_events.numbers in
      let there-too = listed_there (λ e. e.evaluation) evaluations evaluation_none evaluation_more (all_said a) r.count is_events.count few beside kept wide-beside is_events.evaluations in
      record {
        all_there = there;
        no_more = omega (arith, sym there, is_events.count, few);
        inside = listed_inside (λ e. e.event) event_numbers number_none number_more (all_said a) r.count is_events.count few buffer evs wide is_events.numbers;
        small = rw events_are (listed_small (λ e. e.event) event_numbers number_none number_more (2 ^ event_bits) number_lt (all_said a) readable_2.1);
        kept_inside = listed_inside (λ e. e.evaluation) evaluations evaluation_none evaluation_more (all_said a) r.count is_events.count few beside kept wide-beside is_events.evaluations;
        kept_small = rw kept_are (listed_small (λ e. e.evaluation) evaluations evaluation_none evaluation_more (2 ^ evaluation_bits) evaluation_lt (all_said a) readable_2.1);
        alike = sym there-too ∙ there;
      }

  is_said : IsSaid (take r.count evs) r.bad_conferma r.zero_prevalente (all_said a)
  is_said = record { events = events_are; bad = is_events.bad; zero = is_events.zero }

  module _ (tipo day : ℕ) (probe : List ℕ) (held : IsOf probe tipo day (head_of a))
      (reg : List ℕ) (f : Fit (each 8 reg)) (sound : is_sound reg ≡ true) (c : Context) (n : ℕ)
      (judge-told : (g : Head) (es : List Said) → IsOf probe tipo day g → IsSaid (take r.count evs) r.bad_conferma r.zero_prevalente es →
      Readable (events g es) → is_sound reg ≡ true → n ≡ first (checks_of c (events g es)) (state_of siad reg)) where
    judged : n ≡ first (checks_of c (events (head_of a) (all_said a))) (state_of siad reg)
    judged = judge-told (head_of a) (all_said a) held is_said readable_2 sound

    pub events_ways : EventsWays r evs kept tipo probe reg c n a
    events_ways =
        record {
          discarded = discarded 2 a (events (head_of a) (all_said a)) (record_2 a) c reg f sound n judged;
          accepted = λ z q later apply-told l.
              accepted 2 a (events (head_of a) (all_said a)) (record_2 a) c reg f sound n judged later z
              (apply-told (head_of a) (all_said a) (state_of siad reg) c (sym held.key) held.tipo (record { numbers = sym events_are; beside = sym kept_are }) q
              (sound_stored reg f sound) (sym judged ∙ z))
              l;
        }
