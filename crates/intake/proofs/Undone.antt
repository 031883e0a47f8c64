-- A case that is newly inserted has no events yet: in a sound state every event's case stands. So its cancellation carries none of the earlier ones away.
use Prim.Native.Nat.{ℕ}
use mathlib.Core.Path.{◌≡◌, refl, sym, ap, ◌∙◌, subst}
use mathlib.Core.Bool.{true, false, true≢false}
use mathlib.Core.List.{List, ◌∷◌, ◌++◌}
use mathlib.Core.Option.{Option, none, some}
use Rattle.laws.proofs.Truth.{or_left}
use Rattle.model.specs.Map.{is_some, find, has, any_in}
use Rattle.model.specs.Machine.{run}
use Rattle.model.specs.Log.{Undoes}
use Rattle.model.specs.Flow.{State, empty, machine}
use Rattle.model.proofs.MapLaws.{not_in}
use Rattle.laws.proofs.Every.{Every, every_front}
use Rattle.model.proofs.MachineLaws.{run_keeps_ok}
use Rattle.model.proofs.Histories.{AllTaken, all_at, taken_all_all, log_every}
use Rattle.register.specs.Layout.{case_named}
use Rattle.home_care.specs.Row.{siad}
use Rattle.checks.proofs.Accepted.{along}
use Rattle.checks.proofs.Valid.{Sound, parts_of}
use Rattle.intake.specs.FileAnswers.{Call}
use Rattle.intake.specs.Histories.{Entry, entry_flow, entry_machine, entries_for, log_of}
use Rattle.intake.proofs.SoundBytes.{sound_empty}
use Rattle.intake.proofs.History.{Ok, entry_lawful, entry_kept, entries_ok}

module _ (n : ℕ) (xs : List Call) (p q : List Entry) (a b : Entry) (with : log_of n xs ≡ p ++ a ∷ b ∷ q) (u : Undoes entry_flow a b) where
  -- the state that the insertion met
  abbrev met : State ℕ ℕ
  met = run entry_machine empty p

  met_sound : Sound n met
  met_sound =
      run_keeps_ok entry_machine (Sound n) (Ok n) (entry_kept n) empty p (sound_empty n)
      (every_front (Ok n) p (a ∷ b ∷ q) (subst (Every (Ok n)) with (log_every entry_machine (Ok n) (entries_for n) (entries_ok n) empty xs)))

  accepted : entry_machine.judge met a ≡ 0
  accepted = all_at entry_machine empty p a (b ∷ q) (subst (AllTaken entry_machine empty) with (taken_all_all entry_machine (entries_for n) empty xs))

  -- 14 did not hold: the case is new
  fresh : any_in (entry_flow.case_rows a) met.cases ≡ false
  unfolding machine
  fresh = or_left (any_in (entry_flow.case_rows a) met.cases) (any_in (entry_flow.event_rows a) met.events) (simp u.inserts at (entry_lawful.not14 met a accepted))

  pub none_carried : (k : ℕ) → entry_flow.away b k ≡ true → find k met.events ≡ none
  none_carried k e = go (find k met.events) refl
    where
      new : find (case_named siad k) met.cases ≡ none
      new =
          not_in (case_named siad k) (entry_flow.case_rows a) met.cases fresh
          (sym (u.cases (case_named siad k)) ∙ sym (along b.said k) ∙ e)

      go : (o : Option ℕ) → find k met.events ≡ o → find k met.events ≡ none
      go none h = h
      go (some v) h =
          let tied : has (case_named siad k) met.cases ≡ true = (parts_of n met met_sound.is_valid).tied k (ap is_some h) in
          absurd (true≢false (sym tied ∙ ap is_some new))
