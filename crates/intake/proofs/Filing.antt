-- A file that passed 1 to 8: its records are good, they are the root's children of their name, and all of them taken are the call's answer.
use Prim.Native.Nat.{ℕ, ◌+◌, ◌-◌, ◌≤◌}
use mathlib.Core.Path.{◌≡◌, refl, sym, ap, ◌∙◌, subst}
use mathlib.Core.Logic.{⊎_elim}
use mathlib.Core.Bool.{Bool, true, false, cond, ◌||◌, false≢true}
use mathlib.Core.List.{List, [], ◌∷◌, ◌++◌}
use native.Mathlib.Omega.{arith}
use lib.Dec.{eqb, ltb}
use lib.ListN.{length, drop, length-map}
use borrow.Author.Tests.{eqb-true, ltb-false}
use Rattle.laws.proofs.Truth.{either}
use Rattle.markup.specs.NamesAndValues.Read.{refused, read}
use Rattle.markup.specs.NamesAndValues.{then, byte, name}
use Rattle.markup.specs.Tags.{attributes}
use Rattle.markup.specs.View.{ending_of}
use Rattle.markup.specs.Elements.{Tree, depth, kids}
use Rattle.markup.specs.Elements.Inside.{end}
use Rattle.markup.specs.Document.{document}
use Rattle.reading.specs.Everywhere.{Every}
use Rattle.schema.specs.Shape.{named_in, records_of, fine, shape_of}
use Rattle.nodes.specs.Stands.{Stands, stands}
use Rattle.nodes.proofs.Entering.{headed, not_headed, head_open, head_shut, head_bad}
use Rattle.nodes.proofs.Legible.{Legible, document_legible}
use Rattle.nodes.proofs.Records.{shaped}
use Rattle.nodes.proofs.Taken.{Meets}
use Rattle.schemas.specs.Track1.{track1}
use Rattle.schemas.specs.Track2.{track2}
use Rattle.schemas.specs.Schemas.{schema_of}
use Rattle.model.specs.Machine.{run, answers, zeros, others}
use Rattle.model.proofs.MachineLaws.{answers-length, zeros-others}
use Rattle.rows.specs.Packing.{each, Fit}
use Rattle.register.specs.State.{state_of, encode}
use Rattle.home_care.specs.Row.{siad}
use Rattle.home_care.specs.Record.{Record}
use Rattle.home_care.specs.Anomalies.{Context}
use Rattle.tracks.specs.RecordFields.{all_said, record_of}
use Rattle.tracks.specs.TooMany.{too_many, crowded_in}
use Rattle.tracks.specs.View.{each_of}
use Rattle.tracks.specs.WellRead.{WellRead}
use Rattle.tracks.proofs.WellRead.{file_read_1, file_read_2}
use Rattle.soundness.specs.Sound.{is_sound}
use Rattle.checks.specs.CheckOrder.{siad_machine}
use Rattle.intake.specs.FileAnswers.{Call, entries_of, context_of, taken_file}
use Rattle.intake.specs.Driving.{TookAll, Stretch}
use Rattle.intake.specs.Taking.{GoodRecord, assistenza, siad_driver}
use Rattle.intake.specs.Steps.{Whole, call_with}
use Rattle.intake.specs.View.{Says}
use Rattle.intake.proofs.Along.{tallied, ends_end, ends_all}
use Rattle.intake.proofs.SoundBytes.{sound_stored}
use Rattle.schemas.specs.Parts.{most_events}

-- ---- the records of a file without a fault are good

few_each : (i : ℕ) (rs : List Tree) → too_many i rs ≡ 0 → Every (λ a. length (all_said a) ≤ most_events) rs
unfolding too_many
few_each i [] e = tt
few_each i (a ∷ rs) e = go (ltb most_events (length (all_said a))) refl (few_each (1 + i) rs) e
  where
    go : (b : Bool) → ltb most_events (length (all_said a)) ≡ b → (too_many (1 + i) rs ≡ 0 → Every (λ a. length (all_said a) ≤ most_events) rs) →
        cond b (1 + i) (too_many (1 + i) rs) ≡ 0 → (length (all_said a) ≤ most_events) × Every (λ a. length (all_said a) ≤ most_events) rs
    go true q ih z = absurd (omega arith)
    go false q ih z = (ltb-false most_events (length (all_said a)) q, ih z)

each_good : (track : ℕ) (rs : List Tree) → Every (Meets Legible (each_of track)) rs → Every (λ r. WellRead (record_of track r)) rs →
    (eqb track 1 ≡ false → Every (λ a. length (all_said a) ≤ most_events) rs) → Every (GoodRecord track) rs
each_good track [] m w f = tt
each_good track (r ∷ rs) m w f =
    (record { clean = m.0.clean; well = w.0; few = λ e. (f e).0 }, each_good track rs m.1 w.1 (λ e. (f e).1))

module _ (sub : List ℕ) (t : Tree) (l : List ℕ) (n : ℕ) (d : document sub ≡ read t l) where
  abbrev AllGood : ℕ → Type 0
  AllGood track = shape_of (schema_of track) t ≡ fine n → crowded_in track t ≡ 0 → Every (GoodRecord track) (records_of (schema_of track) t) × (n ≡ length (records_of (schema_of track) t))

  good_1 : AllGood 1
  good_1 f z =
      let s = shaped Legible track1 t n f (document_legible sub t l d) in
      (each_good 1 (records_of track1 t) s.records (file_read_1 sub t l n d f) (λ e. absurd (false≢true (sym e))), s.count)

  good_2 : AllGood 2
  good_2 f z =
      let s = shaped Legible track2 t n f (document_legible sub t l d) in
      (each_good 2 (records_of track2 t) s.records (file_read_2 sub t l n d f) (λ _. few_each 0 (records_of track2 t) z), s.count)

  pub all_good : (track : ℕ) → eqb track 1 || eqb track 2 ≡ true → AllGood track
  all_good track k =
      ⊎_elim (λ e. subst AllGood (sym (eqb-true track 1 e)) good_1) (λ e. subst AllGood (sym (eqb-true track 2 e)) good_2) (either (eqb track 1) (eqb track 2) k)

-- ---- the records are the root's children of their name

named_by : (b : Bool) (t : Tree) → records_of (cond b track1 track2) t ≡ named_in assistenza (kids t.inside)
unfolding track1 track2
named_by true t = refl
named_by false t = refl

pub named_are : (track : ℕ) (t : Tree) → records_of (schema_of track) t ≡ named_in assistenza (kids t.inside)
named_are track t = named_by (eqb track 1) t

module _ (track : ℕ) {s : List ℕ} {root records long : ℕ} {t : Tree} (w : Whole track s root records long t) where
  root_stands : Stands depth (drop root s) t
  root_stands = stands w.after w.reads

  -- the root's name, and the place after it
  abbrev Begins : List ℕ → List ℕ → Type 0
  Begins n y = read n y ≡ then (byte 60 (drop root s)) (λ _ m. name m)

  -- from the root's start tag on
  pub file_open : (c : Context) {n y k : List ℕ} → Begins n y → read false k ≡ ending_of (attributes y) → Stretch (siad_driver track c) n k long t.inside
  file_open c x e =
      record {
        holds = head_open (drop root s) x (λ z. omega arith) root_stands e;
        good = rw (named_are track t) at w.good;
        fits = (let h = w.fits in let n = w.count ∙ ap length (named_are track t) in omega arith);
      }

  -- a root with nothing in it
  module _ (c : Context) {reg list : List ℕ} (f : Fit (each 8 reg)) (h : is_sound reg ≡ true) where
    none_taken : t.inside ≡ end → TookAll (siad_driver track c) reg list (records_of (schema_of track) t) 0 reg list
    none_taken e =
        rw (named_are track t, e) (ends_all (siad_driver track c) reg list [] (ends_end (siad_driver track c) (tallied 0 0) reg list (sym (sound_stored reg f h).bytes)))

    pub file_shut : {n y k : List ℕ} → Begins n y → read true k ≡ ending_of (attributes y) → TookAll (siad_driver track c) reg list (records_of (schema_of track) t) 0 reg list
    file_shut x e = none_taken (head_shut (drop root s) x (λ z. omega arith) root_stands e)

    -- a root that was read is read again
    pub file_bad : {n y : List ℕ} → Begins n y → refused ≡ ending_of (attributes y) → TookAll (siad_driver track c) reg list (records_of (schema_of track) t) 0 reg list
    file_bad x e = none_taken (head_bad (drop root s) x (λ z. omega arith) root_stands e)

    pub file_nameless : refused ≡ then (byte 60 (drop root s)) (λ _ m. name m) → TookAll (siad_driver track c) reg list (records_of (schema_of track) t) 0 reg list
    file_nameless e = not_headed (headed depth (drop root s) t w.after w.reads) e

  -- ---- all of them taken

  abbrev rs : List Record
  rs = entries_of track t

  module _ (c : Context) {reg list : List ℕ} {k : ℕ} {later told : List ℕ} (u : TookAll (siad_driver track c) reg list (records_of (schema_of track) t) k later told) where
    abbrev ns : List ℕ
    ns = answers (siad_machine c) (state_of siad reg) rs

    as_many : length rs ≡ records
    as_many = length-map (records_of (schema_of track) t) (record_of track) ∙ sym w.count

    together : zeros ns + others ns ≡ records
    together = zeros-others ns ∙ answers-length (siad_machine c) (state_of siad reg) rs ∙ as_many

    pub no_more : k ≤ records
    no_more = omega (arith, u.counted, together)

    pub taken_says : (x : Call) → c ≡ context_of x (length reg) →
        Says (taken_file (call_with x s track list) reg rs) (record { answer = 0; number = 0; records = records; accepted = k; discarded = records - k; place = 0 }) later told
    taken_says x e =
        let j : length (records_of (schema_of track) t) ≡ length rs = sym (length-map (records_of (schema_of track) t) (record_of track)) in
        let left : records - k ≡ others ns = omega (arith, u.counted, together) in
        record {
          answer = refl;
          number = refl;
          records = sym as_many;
          accepted = u.counted ∙ ap (λ (c : Context). zeros (answers (siad_machine c) (state_of siad reg) rs)) e;
          discarded = left ∙ ap (λ (c : Context). others (answers (siad_machine c) (state_of siad reg) rs)) e;
          place = refl;
          register = u.register ∙ ap (λ (c : Context). encode siad (length reg) (run (siad_machine c) (state_of siad reg) rs)) e;
          answers =
              u.list_after
              ∙ ap (λ (n : ℕ). ns ++ drop n list) j
              ∙ ap (λ (c : Context). answers (siad_machine c) (state_of siad reg) rs ++ drop (length rs) list) e;
        }
