-- A call leaves a sound register sound, and its counts are conserved.
use Prim.Native.Nat.{ℕ}
use mathlib.Core.Path.{◌≡◌, refl, sym, ap, ◌∙◌, subst}
use mathlib.Core.Logic.{⊎_elim, ◌≢◌}
use mathlib.Core.Bool.{true, ◌||◌}
use mathlib.Core.List.{List, [], ◌∷◌, map}
use native.Mathlib.Omega.{arith}
use lib.Dec.{eqb}
use lib.ListN.{length}
use borrow.Author.Tests.{eqb-true}
use Rattle.laws.specs.Lists.{all}
use Rattle.laws.proofs.Truth.{either}
use Rattle.markup.specs.NamesAndValues.Read.{read}
use Rattle.markup.specs.Elements.{Tree}
use Rattle.markup.specs.Document.{document}
use Rattle.reading.specs.Everywhere as within
use Rattle.schema.specs.Shape.{records_of, fine, shape_of}
use Rattle.schemas.specs.Track1.{track1}
use Rattle.schemas.specs.Track2.{track2}
use Rattle.schemas.specs.Schemas.{schema_of}
use Rattle.model.specs.Machine.{Machine, run}
use Rattle.model.specs.Flow as flows
use Rattle.model.specs.Flow.{State}
use Rattle.model.specs.Demands.{OneTrack}
use Rattle.model.specs.Demands.OneTrack.{cases_only, events_only}
use Rattle.laws.proofs.Every.{Every}
use Rattle.model.proofs.MachineLaws.{run_keeps_ok}
use Rattle.rows.specs.Packing.{each, Fit}
use Rattle.register.specs.Layout.{case_named}
use Rattle.register.specs.RoomAndEmptying.{room}
use Rattle.register.specs.State.{state_of, encode}
use Rattle.register.specs.Stored.{Stored}
use Rattle.register.proofs.States.{cases_held_lem, events_held_lem}
use Rattle.home_care.specs.Row.{siad}
use Rattle.home_care.proofs.Laid.{laid_siad}
use Rattle.home_care.specs.Record.{Record}
use Rattle.home_care.specs.Anomalies.{Context}
use Rattle.tracks.specs.RecordFields.{record_of}
use Rattle.tracks.specs.WellRead.{WellRead}
use Rattle.tracks.proofs.WellRead.{file_read_1, file_read_2}
use Rattle.soundness.specs.Sound.{is_sound}
use Rattle.checks.specs.Flow.{flow}
use Rattle.checks.specs.CheckOrder.{siad_machine}
use Rattle.checks.specs.Readable.{Readable}
use Rattle.checks.proofs.Accepted.{siad_discarded, siad_conserved, along}
use Rattle.checks.proofs.Valid.{Sound, sound_state}
use Rattle.checks.proofs.Kept.{kept}
use Rattle.checks.proofs.WellReadable.{readable}
use Rattle.intake.specs.FileAnswers.{Call, Submitted, entries_of, context_of, submitted}
use Rattle.intake.specs.RecordsIn.{records_in}
use Rattle.intake.specs.Demands.{Conserved}
use Rattle.intake.proofs.Outcome.{Passed, Outcome, stopped, passed, outcome, taken_passed}
use Rattle.intake.proofs.SoundBytes.{sound_long, sound_stored, encode_fit, state_long, state_stored, state_sound}

-- ---- the records of a file that is of the shape are readable

each_record : (k : ℕ) (ts : List Tree) → within.Every (λ t. WellRead (record_of k t)) ts → Every WellRead (map (record_of k) ts)
each_record k [] h = tt
each_record k (t ∷ ts) h = (h.0, each_record k ts h.1)

each_readable : (rs : List Record) → Every WellRead rs → Every Readable rs
each_readable [] h = tt
each_readable (r ∷ rs) h = (readable r h.0, each_readable rs h.1)

pub all_well : (x : Call) (t : Tree) (l : List ℕ) (n : ℕ) → eqb x.track 1 || eqb x.track 2 ≡ true →
    document x.file ≡ read t l → shape_of (schema_of x.track) t ≡ fine n → Every WellRead (records_in x)
all_well x t l n k d f =
    rw d (⊎_elim (λ e. first_track (eqb-true x.track 1 e)) (λ e. second_track (eqb-true x.track 2 e)) (either (eqb x.track 1) (eqb x.track 2) k))
  where
    first_track : x.track ≡ 1 → Every WellRead (entries_of x.track t)
    first_track e =
        subst (λ (j : ℕ). Every WellRead (entries_of j t)) (sym e)
        (each_record 1 (records_of track1 t) (file_read_1 x.file t l n d (subst (λ (j : ℕ). shape_of (schema_of j) t ≡ fine n) e f)))

    second_track : x.track ≡ 2 → Every WellRead (entries_of x.track t)
    second_track e =
        subst (λ (j : ℕ). Every WellRead (entries_of j t)) (sym e)
        (each_record 2 (records_of track2 t) (file_read_2 x.file t l n d (subst (λ (j : ℕ). shape_of (schema_of j) t ≡ fine n) e f)))

pub all_readable : (x : Call) (t : Tree) (l : List ℕ) (n : ℕ) → eqb x.track 1 || eqb x.track 2 ≡ true →
    document x.file ≡ read t l → shape_of (schema_of x.track) t ≡ fine n → Every Readable (records_in x)
all_readable x t l n k d f = each_readable (records_in x) (all_well x t l n k d f)

-- ---- all records of a file are of its track

no_events : (ts : List Tree) → all (λ r. eqb (length (flow.event_rows r)) 0) (map (record_of 1) ts) ≡ true
unfolding all record_of
no_events [] = refl
no_events (t ∷ ts) = no_events ts

no_cases : (ts : List Tree) → all (λ r. eqb (length (flow.case_rows r)) 0) (map (record_of 2) ts) ≡ true
unfolding all record_of
no_cases [] = refl
no_cases (t ∷ ts) = no_cases ts

one_track : (x : Call) (t : Tree) (l : List ℕ) → eqb x.track 1 || eqb x.track 2 ≡ true → document x.file ≡ read t l → OneTrack flow (records_in x)
one_track x t l k d =
    rw d (⊎_elim (λ e. of 1 (eqb-true x.track 1 e) (cases_only (no_events (records_of track1 t))))
    (λ e. of 2 (eqb-true x.track 2 e) (events_only (no_cases (records_of track2 t)))) (either (eqb x.track 1) (eqb x.track 2) k))
  where
    of : (j : ℕ) → x.track ≡ j → OneTrack flow (entries_of j t) → OneTrack flow (entries_of x.track t)
    of j e h = subst (λ (i : ℕ). OneTrack flow (entries_of i t)) (sym e) h

-- ---- a run of readable records keeps a state sound

pub step_kept : (c : Context) (n : ℕ) → c.room ≡ room siad n → (s : State ℕ ℕ) (r : Record) → Sound n s → Readable r →
    (siad_machine c).judge s r ≡ 0 → Sound n ((siad_machine c).act s r)
unfolding flows.machine
step_kept c n e s r i w z = kept c n e s i r w z

pub run_kept : (c : Context) (n : ℕ) → c.room ≡ room siad n → (s : State ℕ ℕ) (rs : List Record) → Sound n s → Every Readable rs → Sound n (run (siad_machine c) s rs)
run_kept c n e s rs i w = run_keeps_ok (siad_machine c) (Sound n) Readable (step_kept c n e) s rs i w

-- a discarded record leaves a sound register's bytes as they were
pub discarded_keeps : (c : Context) (reg : List ℕ) → Fit (each 8 reg) → is_sound reg ≡ true → (r : Record) →
    (siad_machine c).judge (state_of siad reg) r ≢ 0 → encode siad (length reg) (run (siad_machine c) (state_of siad reg) (r ∷ [])) ≡ reg
discarded_keeps c reg f h r z = ap (encode siad (length reg)) ((siad_discarded c).as_it_was (state_of siad reg) r z) ∙ sym (sound_stored reg f h).bytes

-- ---- one call

module _ (x : Call) (reg : List ℕ) (f : Fit (each 8 reg)) where
  abbrev call : Submitted
  call = submitted x reg

  abbrev m : Machine (State ℕ ℕ) Record
  m = siad_machine (context_of x (length reg))

  abbrev s : State ℕ ℕ
  s = state_of siad reg

  abbrev t : State ℕ ℕ
  t = run m s (records_in x)

  module _ (p : Passed x reg) where
    pub left_sound : Sound (length reg) t
    left_sound =
        run_kept (context_of x (length reg)) (length reg) refl s (records_in x) (sound_state reg f p.sound)
        (all_readable x p.tree p.left p.records p.track_is p.markup p.shape)

    register_is : call.register ≡ encode siad (length reg) t
    register_is = ap (λ (r : Submitted). r.register) p.gives

    left_stored : Stored siad call.register t
    left_stored =
        subst (λ (b : List ℕ). Stored siad b t) (sym register_is) (state_stored (length reg) (sound_long reg f p.sound) t left_sound)

  -- a register that is sound before a call is sound after it, of the same length, and bytes
  pub sound_kept : is_sound reg ≡ true → is_sound call.register ≡ true
  sound_kept h = go (outcome x reg)
    where
      go : Outcome x reg → is_sound call.register ≡ true
      go (stopped a n _ e _ _) = ap (λ (r : Submitted). is_sound r.register) e ∙ h
      go (passed p) = ap is_sound (register_is p) ∙ state_sound (length reg) (sound_long reg f h) t (left_sound p)

  pub length_kept : length call.register ≡ length reg
  length_kept = go (outcome x reg)
    where
      go : Outcome x reg → length call.register ≡ length reg
      go (stopped a n _ e _ _) = ap (λ (r : Submitted). length r.register) e
      go (passed p) = ap length (register_is p) ∙ state_long (length reg) (sound_long reg f p.sound) t (left_sound p)

  pub bytes_kept : Fit (each 8 call.register)
  bytes_kept = go (outcome x reg)
    where
      go : Outcome x reg → Fit (each 8 call.register)
      go (stopped a n _ e _ _) = subst (λ (r : Submitted). Fit (each 8 r.register)) (sym e) f
      go (passed p) = subst (λ (b : List ℕ). Fit (each 8 b)) (sym (register_is p)) (encode_fit (length reg) t)

  -- K1 and K2, of each file
  pub file_conserved : call.answer ≡ 0 → Conserved x reg call
  file_conserved z =
      let p = taken_passed x reg z in
      let b = sound_stored reg f p.sound in
      let a = left_stored p in
      let c = siad_conserved (context_of x (length reg)) s (records_in x) b.good in
      record {
        cases =
            omega (arith, cases_held_lem siad laid_siad call.register t a, cases_held_lem siad laid_siad reg s b, c.cases);
        events =
            omega (
              arith,
              events_held_lem siad laid_siad call.register t a,
              events_held_lem siad laid_siad reg s b,
              c.once (case_named siad) along (one_track x p.tree p.left p.track_is p.markup),
            );
      }
