-- The two ways out of taking a record: discarded, and the register stays; accepted, and its rows are stored.
use Prim.Native.Nat.{ℕ, ◌+◌, ◌≤◌}
use mathlib.Core.Path.{◌≡◌, refl, sym, ap, ◌∙◌}
use mathlib.Core.Bool.{true}
use mathlib.Core.List.{List}
use native.Mathlib.Omega.{arith}
use lib.ListN.{length}
use borrow.Author.Tests.{eq-eqb, ne_eqb}
use Rattle.markup.specs.Elements.{Tree}
use Rattle.model.specs.Checks.{first}
use Rattle.model.specs.Flow.{State, machine}
use Rattle.rows.specs.Packing.{each, Fit}
use Rattle.register.specs.Layout.{row_at, cases_held, events_held}
use Rattle.register.specs.State.{state_of, encode}
use Rattle.register.specs.Stored.{Stored}
use Rattle.home_care.specs.Row.{siad}
use Rattle.home_care.specs.Record.{Record}
use Rattle.home_care.specs.Anomalies.{Context}
use Rattle.tracks.specs.RecordFields.{record_of}
use Rattle.soundness.specs.Sound.{is_sound}
use Rattle.soundness.proofs.Deciding.{sound_told}
use Rattle.checks.specs.declared.anomaly.Anomaly.{Anomaly}
use Rattle.checks.specs.declared.anomaly.Anomaly.TheVariants as x
use Rattle.checks.specs.Numbers.{number_of}
use Rattle.checks.specs.Flow.{next}
use Rattle.checks.specs.CheckOrder.{checks_of, siad_machine}
use Rattle.intake.specs.Driving.{Took}
use Rattle.intake.specs.Taking.{siad_driver}
use Rattle.intake.proofs.SoundBytes.{sound_stored}

-- the rows of a sound register lie within it
pub rows_within : (reg : List ℕ) → is_sound reg ≡ true → (4 ≤ length reg) × (row_at siad (cases_held reg + events_held reg) ≤ length reg)
rows_within reg h = let s = sound_told reg h in let a = s.long in let b = s.few in (a, omega arith)

-- an anomaly is no acceptance
pub never_0 : (e : Anomaly) → number_of e ≡ 0 → ⊥
never_0 x.OutOfQuarter e = omega arith
never_0 x.BirthYear e = omega arith
never_0 x.Residence e = omega arith
never_0 x.ZeroPrevalente e = omega arith
never_0 x.Standing e = omega arith
never_0 x.NotStanding e = omega arith
never_0 x.NoRoom e = omega arith
never_0 x.NoEvents e = omega arith
never_0 x.Conferma e = omega arith
never_0 x.OneKey e = omega arith
never_0 x.EndsBeforeBegin e = omega arith
never_0 x.NoCase e = omega arith
never_0 x.BeforeTakingIn e = omega arith
never_0 x.SharedDay e = omega arith
never_0 x.TwoConclusions e = omega arith
never_0 x.AfterConclusion e = omega arith

module _ (k : ℕ) (a : Tree) (r : Record) (is : record_of k a ≡ r) (c : Context) (before : List ℕ) (f : Fit (each 8 before)) (sound : is_sound before ≡ true) (n : ℕ)
    (judged : n ≡ first (checks_of c r) (state_of siad before)) where
  abbrev s : State ℕ ℕ
  s = state_of siad before

  answer_is : n ≡ (siad_machine c).judge s (record_of k a)
  unfolding machine
  answer_is = rw is judged

  pub discarded : (n ≡ 0 → ⊥) → Took (siad_driver k c) before a n before
  unfolding machine
  discarded z =
      record {
        answer = answer_is;
        register = rw (is, ne_eqb (first (checks_of c r) s) 0 (λ q. z (judged ∙ q))) (sound_stored before f sound).bytes;
        discarded = λ _. refl;
      }

  pub accepted : (later : List ℕ) → n ≡ 0 → Stored siad later (next r s) → length later ≡ length before → Took (siad_driver k c) before a n later
  unfolding machine
  accepted later z t l =
      record {
        answer = answer_is;
        register = rw (is, eq-eqb (first (checks_of c r) s) 0 (sym judged ∙ z)) (t.bytes ∙ ap (λ (m : ℕ). encode siad m (next r s)) l);
        discarded = λ y. absurd (y z);
      }
