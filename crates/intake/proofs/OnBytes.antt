-- DEMAND 3 on the register's bytes, after any history of calls on an emptied register. A history of three files that it speaks of: SampleHistory.
use Prim.Native.Nat.{ℕ, ◌≤◌}
use mathlib.Core.Path.{◌≡◌, refl, sym, ap, ap₂, ◌∙◌, subst}
use mathlib.Core.Logic.{◌≢◌}
use mathlib.Core.Bool.{true}
use mathlib.Core.List.{List, [], ◌∷◌, ◌++◌, append-nil, map}
use lib.ListN.{length, drop, replicate}
use borrow.Author.Tests.{le-ltb, ne_eqb}
use Rattle.model.specs.Map.{find, Once}
use Rattle.model.specs.Machine.{answers}
use Rattle.model.specs.Log.{at_zeros, accepted_by, taken_all, calls, Undoes}
use Rattle.model.specs.Flow.{State, empty, Good}
use Rattle.model.proofs.MachineLaws.{taken_answers}
use Rattle.model.proofs.Histories.{taken_all_append}
use Rattle.register.specs.State.{state_of, encode}
use Rattle.register.specs.RoomAndEmptying.{emptied}
use Rattle.home_care.specs.Row.{siad}
use Rattle.home_care.specs.Record.{Record}
use Rattle.home_care.specs.Anomalies.{Context}
use Rattle.soundness.specs.Sound.{is_sound}
use Rattle.checks.specs.CheckOrder.{siad_machine}
use Rattle.intake.specs.FileAnswers.{Call, Submitted, context_of, submitted}
use Rattle.intake.specs.RecordsIn.{records_in}
use Rattle.intake.specs.Histories.{call, Entry, entry, entry_flow, entry_machine, entries_for, reg_after, state_after, log_of, OnBytes}
use Rattle.intake.proofs.Outcome.{taken_passed, sound_not_3}
use Rattle.intake.proofs.SoundBytes.{state_long, state_back, state_sound}
use Rattle.intake.proofs.History.{history_demand3, history_bytes, history_kept, taken_entries}
use Rattle.intake.proofs.Shown.{case_says, event_says}
use Rattle.intake.proofs.Undone.{none_carried}

emptied_is : (reg : List ℕ) → 4 ≤ length reg → (emptied reg).register ≡ replicate (length reg) 0
unfolding emptied
emptied_is reg long = rw (le-ltb (length reg) 4 long)

module _ (reg : List ℕ) (long : 4 ≤ length reg) where
  abbrev n : ℕ
  n = length reg

  -- a history leaves one and the same bytes in all registers of one length
  alike : (other : List ℕ) → length other ≡ n → (xs : List Call) → reg_after other xs ≡ reg_after reg xs
  alike other e xs =
      ap (λ (b : List ℕ). calls call b xs)
      (emptied_is other (rw e long) ∙ ap (λ (k : ℕ). replicate {A = ℕ} k 0) e ∙ sym (emptied_is reg long))

  bytes_are : (xs : List Call) → reg_after reg xs ≡ encode siad n (state_after n xs)
  bytes_are xs = ap (λ (b : List ℕ). calls call b xs) (emptied_is reg long) ∙ history_bytes n long xs

  state_is : (xs : List Call) → state_of siad (reg_after reg xs) ≡ state_after n xs
  state_is xs = ap (state_of siad) (bytes_are xs) ∙ state_back n long (state_after n xs) (history_kept n long xs)

  case_is : (xs : List Call) (k : ℕ) → find k (state_of siad (reg_after reg xs)).cases ≡ find k (state_after n xs).cases
  case_is xs k = ap (λ (s : State ℕ ℕ). find k s.cases) (state_is xs)

  event_is : (xs : List Call) (k : ℕ) → find k (state_of siad (reg_after reg xs)).events ≡ find k (state_after n xs).events
  event_is xs k = ap (λ (s : State ℕ ℕ). find k s.events) (state_is xs)

  sound_is : (xs : List Call) → is_sound (reg_after reg xs) ≡ true
  sound_is xs = ap is_sound (bytes_are xs) ∙ state_sound n long (state_after n xs) (history_kept n long xs)

  -- the same things standing after two histories on one register
  same_is : (xs ys : List Call) →
      ((k : ℕ) → find k (state_of siad (reg_after reg xs)).cases ≡ find k (state_of siad (reg_after reg ys)).cases) →
      ((k : ℕ) → find k (state_of siad (reg_after reg xs)).events ≡ find k (state_of siad (reg_after reg ys)).events) →
      reg_after reg xs ≡ reg_after reg ys
  same_is xs ys cs es =
      bytes_are xs
      ∙ (history_demand3 n).same_bytes xs ys (λ k. sym (case_is xs k) ∙ cs k ∙ case_is ys k) (λ k. sym (event_is xs k) ∙ es k ∙ event_is ys k)
      ∙ sym (bytes_are ys)

  -- ---- the log grows by what a call answers 0
  begins : log_of n [] ≡ []
  unfolding taken_all
  begins = refl

  module _ (xs : List Call) (x : Call) where
    abbrev S : State ℕ ℕ
    S = state_after n xs

    abbrev there : Submitted
    there = submitted x (encode siad n S)

    abbrev rs : List Record
    rs = records_in x

    there_is : submitted x (reg_after reg xs) ≡ there
    there_is = ap (submitted x) (bytes_are xs)

    grows : log_of n (xs ++ x ∷ []) ≡ log_of n xs ++ accepted_by entry_machine S (entries_for n S x)
    unfolding taken_all
    grows =
        taken_all_append entry_machine (entries_for n) empty xs (x ∷ [])
        ∙ ap (λ (l : List Entry). log_of n xs ++ l) (append-nil (accepted_by entry_machine S (entries_for n S x)))

    log_taken_is : (submitted x (reg_after reg xs)).answer ≡ 0 →
        log_of n (xs ++ x ∷ []) ≡ log_of n xs ++ map (entry (context_of x n)) (at_zeros (submitted x (reg_after reg xs)).answers rs)
    log_taken_is z =
        let fine : there.answer ≡ 0 = sym (ap (λ (r : Submitted). r.answer) there_is) ∙ z in
        let p = taken_passed x (encode siad n S) fine in
        let c : Context = context_of x n in
        let rest : List ℕ = drop (length rs) x.answer_list in
        let full : entries_for n S x ≡ map (entry c) rs = rw fine in
        let list : (submitted x (reg_after reg xs)).answers ≡ answers (siad_machine c) S rs ++ rest =
        ap (λ (r : Submitted). r.answers) (there_is ∙ p.gives)
        ∙ ap₂ (λ (k : ℕ) (t : State ℕ ℕ). answers (siad_machine (context_of x k)) t rs ++ rest)
        (state_long n long S (history_kept n long xs)) (state_back n long S (history_kept n long xs)) in
        grows
        ∙ ap (λ (l : List Entry). log_of n xs ++ l)
        (ap (accepted_by entry_machine S) full
        ∙ taken_entries c S rs
        ∙ ap (map (entry c)) (taken_answers (siad_machine c) S rs rest ∙ sym (ap (λ (l : List ℕ). at_zeros l rs) list)))

    log_refused_is : (submitted x (reg_after reg xs)).answer ≢ 0 → log_of n (xs ++ x ∷ []) ≡ log_of n xs
    unfolding accepted_by
    log_refused_is z =
        let none : entries_for n S x ≡ [] = rw (ne_eqb there.answer 0 (λ e. z (ap (λ (r : Submitted). r.answer) there_is ∙ e))) in
        grows ∙ ap (λ (es : List Entry). log_of n xs ++ accepted_by entry_machine S es) none ∙ append-nil (log_of n xs)

  -- ---- an insertion and its cancellation
  undone_is : (xs ys : List Call) (p q : List Entry) (a b : Entry) → log_of n xs ≡ p ++ a ∷ b ∷ q → log_of n ys ≡ p ++ q → Undoes entry_flow a b →
      reg_after reg xs ≡ reg_after reg ys
  undone_is xs ys p q a b with without u =
      bytes_are xs ∙ (history_demand3 n).undone xs ys p q a b with without u (none_carried n xs p q a b with u) ∙ sym (bytes_are ys)

  -- DEMAND 3, word for word
  pub on_bytes : OnBytes reg
  on_bytes =
      record {
        log_begins = begins;
        log_taken = log_taken_is;
        log_refused = log_refused_is;
        bytes = bytes_are;
        case_stands = λ xs k v. (
          λ e. ((history_demand3 n).case_stands xs k v).0 (sym (case_is xs k) ∙ e),
          λ h. case_is xs k ∙ ((history_demand3 n).case_stands xs k v).1 h,
        );
        event_stands = λ xs k v. (
          λ e. ((history_demand3 n).event_stands xs k v).0 (sym (event_is xs k) ∙ e),
          λ h. event_is xs k ∙ ((history_demand3 n).event_stands xs k v).1 h,
        );
        case_fields_lem = λ xs k v e. case_says n xs k v (((history_demand3 n).case_stands xs k v).0 (sym (case_is xs k) ∙ e));
        event_fields = λ xs k v e. event_says n xs k v (((history_demand3 n).event_stands xs k v).0 (sym (event_is xs k) ∙ e));
        ascending = λ xs. subst Good (sym (state_is xs)) ((history_demand3 n).ascending xs);
        cases_once = λ xs. subst (λ (s : State ℕ ℕ). Once s.cases) (sym (state_is xs)) ((history_demand3 n).cases_once xs);
        events_once = λ xs. subst (λ (s : State ℕ ℕ). Once s.events) (sym (state_is xs)) ((history_demand3 n).events_once xs);
        same_bytes = λ other e xs ys cs es.
            same_is xs ys (λ k. cs k ∙ ap (λ (b : List ℕ). find k (state_of siad b).cases) (alike other e ys))
            (λ k. es k ∙ ap (λ (b : List ℕ). find k (state_of siad b).events) (alike other e ys))
            ∙ sym (alike other e ys);
        undone = λ xs ys a b with u. undone_is (xs ++ ys) xs (log_of n xs) [] a b with (sym (append-nil (log_of n xs))) u;
        undone_among = undone_is;
        sound = sound_is;
        never_3 = λ xs x. sound_not_3 x (reg_after reg xs) (sound_is xs);
      }
