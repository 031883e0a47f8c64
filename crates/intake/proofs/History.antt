-- Any history of calls on an emptied register: its bytes are those of what the accepted records left, and DEMAND 3 holds of them.
use Prim.Native.Nat.{ℕ, ◌≤◌}
use mathlib.Core.Path.{◌≡◌, refl, sym, ap, ap₂, ◌∙◌}
use mathlib.Core.Bool.{Bool, true, false, cond}
use mathlib.Core.List.{List, [], ◌∷◌, map}
use lib.ListN.{replicate}
use borrow.Author.Tests.{ne_eqb}
use Rattle.model.specs.Machine.{Machine, accepts, step, run}
use Rattle.model.specs.Log.{accepted_by, run_all, calls, Lawful}
use Rattle.model.specs.Flow.{State, empty, machine}
use Rattle.model.specs.Demands.{Demand3, Sequences}
use Rattle.laws.proofs.Every.{Every}
use Rattle.model.proofs.MachineLaws.{run_keeps_ok, run_all_keeps_ok}
use Rattle.model.proofs.Demands.{demand3}
use Rattle.model.proofs.TransmissionLaws.{sequences}
use Rattle.register.specs.RoomAndEmptying.{room}
use Rattle.register.specs.State.{encode}
use Rattle.home_care.specs.Row.{siad}
use Rattle.home_care.specs.Record.{Record}
use Rattle.home_care.specs.Anomalies.{Context}
use Rattle.checks.specs.CheckOrder.{siad_machine}
use Rattle.checks.specs.Readable.{Readable}
use Rattle.checks.proofs.Accepted.{lawful}
use Rattle.checks.proofs.Valid.{Sound}
use Rattle.intake.specs.FileAnswers.{Call, Submitted, context_of}
use Rattle.intake.specs.RecordsIn.{records_in}
use Rattle.intake.specs.Histories.{call, Entry, entry, entry_flow, entry_checks, entry_machine, entries_for, state_after}
use Rattle.intake.proofs.Outcome.{Outcome, stopped, passed, outcome}
use Rattle.intake.proofs.SoundBytes.{state_long, state_back, sound_empty, empty_bytes}
use Rattle.intake.proofs.Sound.{all_readable, step_kept}

-- ---- bytes that go as a state does, where only some records keep what is kept
module _ {S R X B : Type 0} (m : Machine S R) (entries : S → X → List R) (call : B → X → B) (encode : S → B) (Inv : S → Type 0) (Ok : R → Type 0)
    (keeps : (s : S) (r : R) → Inv s → Ok r → m.judge s r ≡ 0 → Inv (m.act s r))
    (ok : (s : S) (x : X) → Every Ok (entries s x))
    (right : (s : S) (x : X) → Inv s → call (encode s) x ≡ encode (run m s (entries s x))) where
  pub calls-encode_ok : (s : S) (xs : List X) → Inv s → calls call (encode s) xs ≡ encode (run_all m entries s xs)
  unfolding calls run_all
  calls-encode_ok s [] h = refl
  calls-encode_ok s (x ∷ xs) h =
      rw (right s x h) (calls-encode_ok (run m s (entries s x)) xs (run_keeps_ok m Inv Ok keeps s (entries s x) h (ok s x)))

-- ---- one machine for the whole history

pub entry_lawful : Lawful entry_flow entry_checks
entry_lawful =
    record {
      not14 = λ s e z. (lawful e.context).not14 s e.said z;
      not15 = λ s e z. (lawful e.context).not15 s e.said z;
      not22 = λ s e z. (lawful e.context).not22 s e.said z;
    }

-- a file's records run alike, with their context and without
run_entries : (c : Context) (s : State ℕ ℕ) (rs : List Record) → run entry_machine s (map (entry c) rs) ≡ run (siad_machine c) s rs
unfolding run machine
run_entries c s [] = refl
run_entries c s (r ∷ rs) = run_entries c (step (siad_machine c) s r) rs

-- and are accepted alike
pub taken_entries : (c : Context) (s : State ℕ ℕ) (rs : List Record) →
    accepted_by entry_machine s (map (entry c) rs) ≡ map (entry c) (accepted_by (siad_machine c) s rs)
unfolding accepted_by machine
taken_entries c s [] = refl
taken_entries c s (r ∷ rs) =
    let t : State ℕ ℕ = step (siad_machine c) s r in
    go (accepts (siad_machine c) s r) (accepted_by entry_machine t (map (entry c) rs)) (accepted_by (siad_machine c) t rs) (taken_entries c t rs)
  where
    go : (b : Bool) (l : List Entry) (k : List Record) → l ≡ map (entry c) k → cond b (entry c r ∷ l) l ≡ map (entry c) (cond b (r ∷ k) k)
    go true l k e = ap (λ (t : List Entry). entry c r ∷ t) e
    go false l k e = e

each_entry : (c : Context) (n : ℕ) → c.room ≡ room siad n → (rs : List Record) → Every Readable rs →
    Every (λ e. Readable e.said × (e.context.room ≡ room siad n)) (map (entry c) rs)
each_entry c n q [] h = tt
each_entry c n q (r ∷ rs) h = ((h.0, q), each_entry c n q rs h.1)

module _ (n : ℕ) where
  -- DEMAND 3, of the state that any history leaves and of its bytes
  pub history_demand3 : Demand3 entry_flow entry_machine (entries_for n) (encode siad n)
  history_demand3 = demand3 entry_flow entry_checks entry_lawful (entries_for n) (encode siad n)

  -- FAR 6.3, section 4.3, and J7, over any history
  pub history_sequences : Sequences entry_flow entry_machine (entries_for n)
  history_sequences = sequences entry_flow entry_checks entry_lawful (entries_for n)

  abbrev pub Ok : Entry → Type 0
  Ok e = Readable e.said × (e.context.room ≡ room siad n)

  pub entry_kept : (s : State ℕ ℕ) (e : Entry) → Sound n s → Ok e → entry_machine.judge s e ≡ 0 → Sound n (entry_machine.act s e)
  unfolding machine
  entry_kept s e i w z = step_kept e.context n w.1 s e.said i w.0 z

  -- the records of a file that is taken are readable, and judged in the register's room
  pub entries_ok : (s : State ℕ ℕ) (x : Call) → Every Ok (entries_for n s x)
  entries_ok s x = go (outcome x (encode siad n s))
    where
      go : Outcome x (encode siad n s) → Every Ok (entries_for n s x)
      go (stopped a k _ e z _) = rw (ap (λ (r : Submitted). r.answer) e, ne_eqb a 0 z) tt
      go (passed p) =
          rw (ap (λ (r : Submitted). r.answer) p.gives)
          (each_entry (context_of x n) n refl (records_in x) (all_readable x p.tree p.left p.records p.track_is p.markup p.shape))

  module _ (long : 4 ≤ n) where
    -- a call does to a sound state's bytes what the machine does to the state
    pub call_right : (s : State ℕ ℕ) (x : Call) → Sound n s → call (encode siad n s) x ≡ encode siad n (run entry_machine s (entries_for n s x))
    unfolding run
    call_right s x i = go (outcome x (encode siad n s))
      where
        rs : List Record
        rs = records_in x

        c : ℕ → Context
        c k = context_of x k

        go : Outcome x (encode siad n s) →
            call (encode siad n s) x ≡ encode siad n (run entry_machine s (entries_for n s x))
        go (stopped a k _ e z _) =
            let nil : entries_for n s x ≡ [] = rw (ap (λ (r : Submitted). r.answer) e, ne_eqb a 0 z) in
            ap (λ (r : Submitted). r.register) e ∙ sym (ap (λ (es : List Entry). encode siad n (run entry_machine s es)) nil)
        go (passed p) =
            let full : entries_for n s x ≡ map (entry (c n)) rs = rw (ap (λ (r : Submitted). r.answer) p.gives) in
            ap (λ (r : Submitted). r.register) p.gives
            ∙ ap₂ (λ (k : ℕ) (t : State ℕ ℕ). encode siad k (run (siad_machine (c k)) t rs)) (state_long n long s i) (state_back n long s i)
            ∙ sym (ap (encode siad n) (ap (run entry_machine s) full ∙ run_entries (c n) s rs))

    -- the register after any history of calls on an emptied one
    pub history_bytes : (xs : List Call) → calls call (replicate n 0) xs ≡ encode siad n (state_after n xs)
    history_bytes xs =
        ap (λ (b : List ℕ). calls call b xs) (empty_bytes n long)
        ∙ calls-encode_ok entry_machine (entries_for n) call (encode siad n) (Sound n) Ok entry_kept entries_ok call_right empty xs (sound_empty n)

    pub history_kept : (xs : List Call) → Sound n (state_after n xs)
    history_kept xs = run_all_keeps_ok entry_machine (Sound n) Ok entry_kept (entries_for n) entries_ok empty xs (sound_empty n)
