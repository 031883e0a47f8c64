-- What reading a record guarantees is what the register's rows ask of it.
use Prim.Native.Nat.{ℕ, ◌^◌}
use mathlib.Core.Path.{◌≡◌, refl, ap, ◌∙◌}
use mathlib.Core.Bool.{Bool, true, false, cond, not, ◌&&◌, ◌||◌}
use mathlib.Core.List.{List, [], ◌∷◌}
use lib.Dec.{eqb, ltb, leb}
use lib.ListN.{get_or}
use borrow.Author.Tests.{lt-ltb, le-leb, eq-eqb}
use Rattle.laws.specs.Lists.{all, same}
use Rattle.laws.proofs.Every.{and_tell}
use Rattle.codes.specs.CodesAndCharacters.{in_ranges, alnums, id_chars, regions}
use Rattle.days.specs.DayNumbers.{day_count}
use Rattle.markup.specs.Bytes.{in_file, is_text}
use Rattle.markup.proofs.AtRepeats.{same_self}
use Rattle.home_care.specs.Row.{Key, Case, Evaluation, event_bits, evaluation_bits, event_number, evaluation_number, event_in, evaluation_of, evaluates}
use Rattle.home_care.proofs.Table.{event_lt, evaluation_lt}
use Rattle.home_care.proofs.ReadBack.{evaluation_back}
use Rattle.home_care.specs.Allowed.{prevalente_filled, event_allowed}
use Rattle.home_care.proofs.EventAllowed.{event_fits, number_allowed}
use Rattle.home_care.specs.Record.{Said, Record, admission, events, padded}
use Rattle.tracks.specs.WellRead.{WellKey, WellCase, WellSaid, WellEach, WellRead}
use Rattle.tracks.proofs.Fits.{key_fits, padded-length, prevalente_fits, scales_fit, evaluation_fits}
use Rattle.tracks.proofs.Padded.{padded-filled}
use Rattle.checks.specs.Readable.{KeyReadable, CaseReadable, whole_kept, kept_readable, event_readable, Readable}

key_readable : (k : Key) → WellKey k → KeyReadable k
key_readable k r =
    record {
      allowed =
          and_tell (in_ranges regions k.region) (all (in_ranges alnums) k.asl && (ltb k.taken day_count && all (in_ranges id_chars) k.id)) r.region
          (and_tell (all (in_ranges alnums) k.asl) (ltb k.taken day_count && all (in_ranges id_chars) k.id) r.asl.bytes
          (and_tell (ltb k.taken day_count) (all (in_ranges id_chars) k.id) (lt-ltb k.taken day_count r.taken) r.id.bytes));
      fits = key_fits k r;
    }

-- the sizes of a case's fields but for the birth year, which may be any four digits
case_readable : (c : Case) → WellCase c → CaseReadable c
case_readable c r =
    record {
      prevalente = rw r.fills (padded-filled r.written r.prevalente);
      prevalente_fits = rw r.fills (prevalente_fits r.written r.prevalente);
      prevalente-length = rw r.fills (padded-length r.written);
      scales_fit = scales_fit c.scales r.scaled;
      scales-length = r.scaled.six;
      rischio = r.scaled.last;
    }

-- what is kept of an event: the whole evaluation of a Valutazione that is there, or nothing
module _ (s : Said) (r : WellSaid s) where
  abbrev kept : Evaluation
  kept = record { scales = r.scales; prevalente = padded s.prevalente }

  whole : s.evaluation ≡ evaluation_number kept → s.valued ≡ true → whole_kept s ≡ true
  whole e v =
      let w = (r.valued v).1 in
      let p : List ℕ = padded s.prevalente in
      ap (λ (k : Evaluation). (same k.prevalente p && all (λ b. in_file b && is_text b) s.prevalente) && (prevalente_filled k.prevalente && leb (get_or k.scales 5 0) 2))
      (ap evaluation_of e ∙ evaluation_back kept (evaluation_fits s r))
      ∙ and_tell _ _ (and_tell (same p p) _ (same_self p) w.bytes)
      (and_tell (prevalente_filled p) _ (padded-filled s.prevalente w) (le-leb (get_or r.scales 5 0) 2 r.scaled.last))

  kept_readable_lem : kept_readable s ≡ true
  kept_readable_lem = go (evaluates s.event) refl
    where
      go : (b : Bool) → evaluates s.event ≡ b → kept_readable s ≡ true
      go false q =
          let z : s.evaluation ≡ 0 = r.keeps ∙ ap (λ (b : Bool). cond b (evaluation_number kept) 0) q in
          and_tell (ltb s.evaluation (2 ^ evaluation_bits)) _ (ap (λ (n : ℕ). ltb n (2 ^ evaluation_bits)) z)
          (ap (λ (b : Bool). cond b (not s.valued || whole_kept s) (eqb s.evaluation 0)) q ∙ eq-eqb s.evaluation 0 z)
      go true q =
          let e : s.evaluation ≡ evaluation_number kept = r.keeps ∙ ap (λ (b : Bool). cond b (evaluation_number kept) 0) q in
          and_tell (ltb s.evaluation (2 ^ evaluation_bits)) _ (lt-ltb s.evaluation (2 ^ evaluation_bits) (rw e (evaluation_lt kept (evaluation_fits s r))))
          (ap (λ (b : Bool). cond b (not s.valued || whole_kept s) (eqb s.evaluation 0)) q ∙ by_valued e s.valued refl)
        where
          by_valued : s.evaluation ≡ evaluation_number kept → (b : Bool) → s.valued ≡ b → not b || whole_kept s ≡ true
          by_valued e true v = whole e v
          by_valued e false v = refl

said_readable : (s : Said) → WellSaid s → event_readable s ≡ true
said_readable s r =
    let n : ℕ = event_number r.event in
    and_tell (ltb s.event (2 ^ event_bits)) _
    (ap (λ (e : ℕ). ltb e (2 ^ event_bits)) r.packs ∙ lt-ltb n (2 ^ event_bits) (event_lt r.event (event_fits r.event r.allowed)))
    (and_tell (event_allowed (event_in s.event)) (kept_readable s) (ap (λ (e : ℕ). event_allowed (event_in e)) r.packs ∙ number_allowed r.event r.allowed) (kept_readable_lem s r))

each_readable : (es : List Said) → WellEach es → all event_readable es ≡ true
unfolding all
each_readable [] r = refl
each_readable (e ∷ es) r = and_tell (event_readable e) (all event_readable es) (said_readable e r.0) (each_readable es r.1)

pub readable : (r : Record) → WellRead r → Readable r
readable (admission h a) w = (key_readable h.key w.0.key, case_readable a.case w.1.case)
readable (events h es) w = (key_readable h.key w.0.key, each_readable es w.1)
