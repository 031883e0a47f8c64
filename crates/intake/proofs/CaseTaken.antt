-- A record of Track 1: what the code holds of its case and of the residence, and its two ways out.
use Prim.Native.Nat.{ℕ}
use mathlib.Core.Path.{◌≡◌, sym, ap, ◌∙◌, subst}
use mathlib.Core.Bool.{true}
use mathlib.Core.List.{List}
use lib.ListN.{length}
use Rattle.markup.specs.Elements.{Tree}
use Rattle.markup.specs.View.{part}
use Rattle.tracks.specs.declared.record.Top.{Top}
use Rattle.model.specs.Checks.{first}
use Rattle.model.specs.Flow.{State}
use Rattle.model.proofs.ChecksLaws.{clear}
use Rattle.rows.specs.Packing.{each, Fit}
use Rattle.register.specs.RoomAndEmptying.{room}
use Rattle.register.specs.State.{state_of}
use Rattle.register.specs.Search.{probe_key}
use Rattle.register.specs.Stored.{Stored}
use Rattle.home_care.specs.Row.{key_number, siad, row_bytes, key_bits}
use Rattle.home_care.specs.Fits.{case_with, CaseFits}
use Rattle.home_care.specs.Record.{Head, Admission, Record, admission}
use Rattle.home_care.specs.Anomalies.{Context}
use Rattle.tracks.specs.RecordFields.{head_of, admission_of}
use Rattle.tracks.specs.View.{IsAdmission}
use Rattle.tracks.specs.Top.{OfShape}
use Rattle.tracks.specs.declared.record.AdmissionRead.{AdmissionRead}
use Rattle.soundness.specs.Sound.{is_sound}
use Rattle.checks.specs.Flow.{next}
use Rattle.checks.specs.CheckOrder.{checks_of}
use Rattle.checks.specs.Readable.{Readable}
use Rattle.checks.proofs.Accepted.{numbered}
use Rattle.checks.proofs.RowsAllowed.{case_fits}
use Rattle.checks.proofs.WellReadable.{readable}
use Rattle.judge.specs.View.{IsOf, IsAdmitted}
use Rattle.intake.specs.Driving.{Took}
use Rattle.intake.specs.Taking.{Here, siad_driver}
use Rattle.intake.proofs.SoundBytes.{sound_stored}
use Rattle.intake.proofs.RecordRead.{of_shape, record_1}
use Rattle.intake.proofs.RecordTaken.{discarded, accepted}

-- judged with the answer n: where that is 0 the case fits its row, and the two ways out
pub record CaseWays (r : AdmissionRead) (tipo : ℕ) (probe reg : List ℕ) (c : Context) (n : ℕ) (a : Tree) : Type 0 where
  pub fits : n ≡ 0 → CaseFits (case_with r.birth r.prevalente r.scales)
  pub discarded : (n ≡ 0 → ⊥) → Took (siad_driver 1 c) reg a n reg
  pub accepted : n ≡ 0 → c.room ≡ room siad (length reg) → (later : List ℕ) →
      ((g : Head) (b : Admission) (t : State ℕ ℕ) (d : Context) → key_number g.key ≡ probe_key row_bytes key_bits probe → tipo ≡ g.tipo →
      b.case ≡ case_with r.birth r.prevalente r.scales → d.room ≡ room siad (length reg) → Stored siad reg t →
      first (checks_of d (admission g b)) t ≡ 0 → Stored siad later (next (admission g b) t)) →
      length later ≡ length reg → Took (siad_driver 1 c) reg a n later

module _ (s : List ℕ) (top : Top) (r : AdmissionRead)
    (told : (a : Tree) → OfShape 1 s top a → IsAdmission s r (admission_of a))
    (a : Tree) (x : Here 1 s top a) where
  is_admission : IsAdmission s r (admission_of a)
  is_admission = told a (of_shape x)

  readable_1 : Readable (admission (head_of a) (admission_of a))
  readable_1 = readable (admission (head_of a) (admission_of a)) (rw (record_1 a) at x.good.well)

  pub five : length r.prevalente ≡ 5
  five = ap length is_admission.prevalente ∙ readable_1.1.prevalente-length

  pub six : length r.scales ≡ 6
  six = ap length is_admission.scales ∙ readable_1.1.scales-length

  case_is : (admission_of a).case ≡ case_with r.birth r.prevalente r.scales
  case_is = λ i.
      record { birth = sym is_admission.birth i; prevalente = sym is_admission.prevalente i; scales = sym is_admission.scales i }

  abbrev said : Record
  said = admission (head_of a) (admission_of a)

  module _ (tipo day : ℕ) (probe : List ℕ) (held : IsOf probe tipo day (head_of a))
      (region home comune stato : List ℕ) (er : region ≡ part s r.region.start r.region.end) (eh : home ≡ part s r.asl.start r.asl.end)
      (ec : comune ≡ part s r.comune.start r.comune.end) (es : stato ≡ part s r.stato.start r.stato.end)
      (reg : List ℕ) (f : Fit (each 8 reg)) (sound : is_sound reg ≡ true) (c : Context) (n : ℕ)
      (judge-told : (g : Head) (b : Admission) → IsOf probe tipo day g → IsAdmitted r.birth r.prevalente region home comune stato b →
      is_sound reg ≡ true → n ≡ first (checks_of c (admission g b)) (state_of siad reg)) where
    is_admitted : IsAdmitted r.birth r.prevalente region home comune stato (admission_of a)
    is_admitted =
        record {
          birth = is_admission.birth;
          prevalente = is_admission.prevalente;
          region = er ∙ is_admission.region;
          asl = eh ∙ is_admission.asl;
          comune = ec ∙ is_admission.comune;
          stato = es ∙ is_admission.stato;
        }

    judged : n ≡ first (checks_of c said) (state_of siad reg)
    judged = judge-told (head_of a) (admission_of a) held is_admitted sound

    -- 11 bounds the birth year
    case_held : n ≡ 0 → CaseFits (case_with r.birth r.prevalente r.scales)
    case_held z =
        subst CaseFits case_is
        (case_fits (head_of a).key (admission_of a).case readable_1.0 readable_1.1
        (clear 11 (checks_of c said) (state_of siad reg) (numbered c said) (sym judged ∙ z)))

    pub case_ways : CaseWays r tipo probe reg c n a
    case_ways =
        record {
          fits = case_held;
          discarded = discarded 1 a said (record_1 a) c reg f sound n judged;
          accepted = λ z q later apply-told l.
              accepted 1 a said (record_1 a) c reg f sound n judged later z
              (apply-told (head_of a) (admission_of a) (state_of siad reg) c (sym held.key) held.tipo case_is q
              (sound_stored reg f sound) (sym judged ∙ z))
              l;
        }
