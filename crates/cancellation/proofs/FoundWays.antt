-- Each way out of writing a cancellation file before the case's rows are read.
use Prim.Native.Nat.{ℕ, ◌+◌, ◌≤◌}
use mathlib.Core.Path.{◌≡◌, refl, sym, ap, ◌∙◌}
use mathlib.Core.Bool.{Bool, true, false, cond, not}
use mathlib.Core.List.{List, map}
use native.Mathlib.Omega.{arith}
use lib.ListN.{length}
use Rattle.days.specs.Quarters.{is_period, first_day, last_day}
use Rattle.days.specs.View.{quarter_of}
use Rattle.days.specs.declared.quarters.Quarter.{Quarter}
use Rattle.std.specs.Prelude.{Option, None, Some}
use Rattle.model.specs.Map.{Map}
use Rattle.register.specs.Layout.{row_at, cases_held, events_held}
use Rattle.home_care.specs.Row.{siad, event_number_in}
use Rattle.soundness.specs.Sound.{is_sound}
use Rattle.soundness.specs.Finding.{Found, texts_allowed, found}
use Rattle.soundness.proofs.Deciding.{sound_told}
use Rattle.soundness.proofs.FindAnswers.{unsound, nowhere}
use Rattle.judge.specs.CaseRows.{OfCase}
use Rattle.cancellation.specs.Chosen.{those, dated_in, chosen}
use Rattle.cancellation.specs.FileText.{CaseTexts}
use Rattle.cancellation.specs.CancelFile.{Written, case_told, unwritten, of_chosen, of_found, cancel_file, CancelTold}
use Rattle.cancellation.specs.Rows.{RowsIn}
use Rattle.cancellation.specs.View.{chosen_in}
use Rattle.cancellation.proofs.CaseFields.{texts_told}
use Rattle.cancellation.proofs.WriteWays.{says_as, says_unwritten, Sized}

-- ---- finding the case

module _ (reg : List ℕ) (x : CaseTexts) where
  abbrev looked : Found
  looked = found reg x.region x.asl x.date x.id

  abbrev allowed : Bool
  allowed = texts_allowed x.region x.asl x.date x.id

  -- the case stands: the register is sound, and the texts are allowed
  module _ {place : ℕ} (e : record { answer = 0; place = place } ≡ looked) where
    pub is_sound_lem : is_sound reg ≡ true
    is_sound_lem = go (is_sound reg) refl
      where
        go : (b : Bool) → is_sound reg ≡ b → is_sound reg ≡ true
        go true s = s
        go false s =
            let n : ◌≡◌ {A = ℕ} 0 3 = ap (λ (f : Found). f.answer) (e ∙ sym (unsound reg x.region x.asl x.date x.id s)) in
            absurd (omega arith)

    pub are_allowed : allowed ≡ true
    are_allowed = go allowed refl
      where
        go : (b : Bool) → allowed ≡ b → allowed ≡ true
        go true t = t
        go false t =
            let n : ◌≡◌ {A = ℕ} 0 30 = ap (λ (f : Found). f.answer) (e ∙ sym (nowhere reg x.region x.asl x.date x.id is_sound_lem t)) in
            absurd (omega arith)

    -- the texts have their lengths
    pub are_sized : Sized x
    are_sized = let t = texts_told x are_allowed in record { region = t.region_long; asl = t.asl_long; date = t.date_long; id = t.id_long }

    -- the register's rows lie within it
    pub rows_inside : (4 ≤ length reg) × (row_at siad (cases_held reg + events_held reg) ≤ length reg)
    rows_inside = let s = sound_told reg is_sound_lem in let a = s.long in let b = s.few in (a, omega arith)

    -- the events that are chosen decide
    at_0 : (first last : ℕ) (out : List ℕ) → of_found reg x first last out ≡ of_chosen x (chosen reg (case_told x) first last) out
    at_0 first last out = rw (sym (ap (λ (f : Found). f.answer) e))

    module _ {c lo hi : ℕ} (o : OfCase c reg lo hi) where
      -- the case's rows lie within the register
      pub case_inside : RowsIn reg lo hi
      case_inside = let s = sound_told reg is_sound_lem in let b = s.few in record { order = o.mid; inside = o.end; few = omega (arith, o.high) }

      -- what is chosen of the case's rows is chosen of the case
      pub says_chosen : (first last : ℕ) (out : List ℕ) {r long : ℕ} {after : List ℕ} → c ≡ case_told x →
          CancelTold (of_chosen x (chosen_in reg first last lo hi) out) r long after → CancelTold (of_found reg x first last out) r long after
      says_chosen first last out k s =
          says_as
          (at_0 first last out ∙ ap (λ (l : List ℕ). of_chosen x l out)
          (ap (λ (n : ℕ). chosen reg n first last) (sym k) ∙ ap (λ (m : Map ℕ). those (dated_in first last) (map event_number_in m)) (o.are is_sound_lem)))
          s

-- ---- the period

module _ (reg : List ℕ) (x : CaseTexts) (y q : ℕ) (out : List ℕ) where
  abbrev of_quarter : Option Quarter → Written
  of_quarter (Some d) = of_found reg x d.first d.last out
  of_quarter None = unwritten out 1

  by_period : (p : Bool) → cond (not p) (unwritten out 1) (of_found reg x (first_day y q) (last_day y q) out) ≡
      of_quarter (cond p (Some (record { first = first_day y q; last = last_day y q })) None)
  by_period true = refl
  by_period false = refl

  by_quarter : {d : Option Quarter} → d ≡ quarter_of y q → cancel_file reg x y q out ≡ of_quarter d
  unfolding cancel_file
  by_quarter e = by_period (is_period y q) ∙ ap of_quarter (sym e)

  -- a period that isn't allowed
  pub says_1 : None ≡ quarter_of y q → CancelTold (cancel_file reg x y q out) 1 0 out
  says_1 e = says_unwritten out 1 (by_quarter e)

  -- the quarter's days
  pub says_found : {d : Quarter} {r long : ℕ} {after : List ℕ} → Some d ≡ quarter_of y q → CancelTold (of_found reg x d.first d.last out) r long after →
      CancelTold (cancel_file reg x y q out) r long after
  says_found e s = says_as (by_quarter e) s
