-- What the code holds of a record, put for the record: its checks against a sound register in the words of specs/Asked.
use Prim.Native.Nat.{ℕ, ◌+◌}
use mathlib.Core.Path.{◌≡◌, ◌∙◌}
use mathlib.Core.Bool.{Bool, true}
use mathlib.Core.List.{List, map}
use lib.ListN.{length}
use Rattle.model.specs.Checks.{first}
use Rattle.model.specs.Map.{has}
use Rattle.model.specs.Transmission.{is_insert, is_cancel}
use Rattle.rows.specs.Packing.{each, Fit}
use Rattle.register.specs.Layout.{cases_held, events_held}
use Rattle.register.specs.State.{state_of}
use Rattle.register.specs.Search.{probe_key}
use Rattle.register.specs.Sound.{events_of}
use Rattle.home_care.specs.Row.{siad, event_number_in, row_bytes, key_bits}
use Rattle.home_care.specs.Record.{Head, Admission, Said, admission, events, type_of}
use Rattle.home_care.specs.Anomalies.{Context, out_of_quarter, t11, t12, zero_kept}
use Rattle.soundness.specs.Sound.{is_sound}
use Rattle.checks.specs.CheckOrder.{checks_of}
use Rattle.checks.specs.Readable.{Readable}
use Rattle.checks.proofs.Valid.{sound_state}
use Rattle.judge.specs.Asked.{answer_admission}
use Rattle.judge.proofs.InOrder.{answer_events}
use Rattle.judge.specs.View.{IsOf, IsSaid, IsAdmitted}
use Rattle.judge.proofs.Answers.{answer_events_lem, answer_admission_lem}
use Rattle.judge.proofs.CaseRows.{cases_count, events_count}

module _ (reg : List ℕ) (c : Context) (tipo taken : ℕ) (probe : List ℕ) where
  abbrev stands : Bool
  stands = has (probe_key row_bytes key_bits probe) (state_of siad reg).cases

  abbrev rows : ℕ
  rows = cases_held reg + events_held reg

  abbrev standing : List ℕ
  standing = map event_number_in (events_of siad (probe_key row_bytes key_bits probe) (state_of siad reg).events)

  -- Track 2
  abbrev pub events_answer : List ℕ → Bool → Bool → ℕ
  events_answer evs bad zero = answer_events c (is_insert (type_of tipo)) (is_cancel (type_of tipo)) taken evs bad zero stands rows standing

  pub events_told : Fit (each 8 reg) → (evs : List ℕ) (bad zero : Bool) (r : ℕ) → (is_sound reg ≡ true → r ≡ events_answer evs bad zero) →
      (h : Head) (es : List Said) → IsOf probe tipo taken h → IsSaid evs bad zero es → Readable (events h es) → is_sound reg ≡ true →
      r ≡ first (checks_of c (events h es)) (state_of siad reg)
  events_told f evs bad zero r e h es i s w sound =
      e sound ∙ rw (
        answer_events_lem (length reg) (state_of siad reg) (sound_state reg f sound) c h es w,
        cases_count reg,
        events_count reg,
        i.key,
        i.tipo,
        i.taken,
        s.events,
        s.bad,
        s.zero,
      )

  -- Track 1
  abbrev pub admission_answer : (out early abroad zero : Bool) → ℕ
  admission_answer out early abroad zero =
      answer_admission c (is_insert (type_of tipo)) out early abroad zero stands rows

  pub admission_told : (birth : ℕ) (main region asl comune stato : List ℕ) (r : ℕ) (h : Head) (a : Admission) → IsOf probe tipo taken h → IsAdmitted birth main region asl comune stato a →
      r ≡ admission_answer (out_of_quarter c taken) (t11 h.key a.case) (t12 (record { region = region; asl = asl; comune = comune; stato = stato })) (zero_kept main) →
      r ≡ first (checks_of c (admission h a)) (state_of siad reg)
  admission_told birth main region asl comune stato r h a i w e =
      e ∙ rw (
        answer_admission_lem (state_of siad reg) c h a,
        cases_count reg,
        events_count reg,
        i.key,
        i.tipo,
        i.taken,
        w.prevalente,
        w.region,
        w.asl,
        w.comune,
        w.stato,
      )
