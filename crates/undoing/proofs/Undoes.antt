-- A cancellation file, taken for its quarter by the register that it was written from: every record is accepted, and exactly its events are gone.
use Prim.Native.Nat.{ℕ, zero, suc, ◌≤◌}
use mathlib.Core.Path.{◌≡◌, refl, sym, ap, ap₂, ◌∙◌, subst}
use mathlib.Core.Bool.{true}
use mathlib.Core.List.{List, [], ◌++◌, map}
use native.Mathlib.Omega.{arith}
use lib.ListN.{length, take, drop, replicate, length-map}
use lib.Seq.{take_at}
use borrow.Author.Tests.{le-ltb}
use Rattle.days.specs.Quarters.{is_period, first_day, last_day}
use Rattle.markup.specs.NamesAndValues.Read.{read}
use Rattle.markup.specs.Elements.{Tree}
use Rattle.markup.specs.Document.{document}
use Rattle.schema.specs.Shape.{fine, shape_of}
use Rattle.schemas.specs.Schemas.{schema_of}
use Rattle.model.specs.Machine.{Machine, run, answers, zeros, others}
use Rattle.model.specs.Flow.{State}
use Rattle.rows.specs.Packing.{each, Fit}
use Rattle.register.specs.RoomAndEmptying.{room}
use Rattle.register.specs.State.{state_of, encode}
use Rattle.home_care.specs.Row.{siad}
use Rattle.home_care.specs.Anomalies.{Context}
use Rattle.home_care.specs.Record.{Record}
use Rattle.tracks.specs.TooMany.{crowded_in}
use Rattle.soundness.specs.Sound.{is_sound}
use Rattle.checks.specs.CheckOrder.{siad_machine}
use Rattle.checks.proofs.Valid.{Sound, Parts, sound_state, parts_of}
use Rattle.judge.proofs.Keys.{twice_rows}
use Rattle.intake.specs.FileAnswers.{Call, call_of, longest, entries_of, context_of, taken_file, submitted}
use Rattle.cancellation.specs.Chosen.{those, dated_in}
use Rattle.cancellation.specs.FileText.{CaseTexts, shares, file_text}
use Rattle.cancellation.specs.CancelFile.{Written, case_told, cancel_file}
use Rattle.undoing.specs.ReadBack.{climbing, Writable, said, records_said, tree_read, ReadBack}
use Rattle.undoing.specs.Undone.{stays, less_chosen, records_written, file_in, taken_back}
use Rattle.undoing.proofs.Those.{those_pass}
use Rattle.undoing.proofs.Rows.{less_rows}
use Rattle.undoing.proofs.Shares.{joined, some_each}
use Rattle.undoing.proofs.OneShare.{said_numbers, said_readable, rows_said, less_said, Cancels}
use Rattle.undoing.proofs.AllShares.{AllTaken, all_shares}
use Rattle.undoing.proofs.ChosenRows.{climbing_once, picked_stand, picked_out}
use Rattle.undoing.proofs.CallPassed.{named, CallPassed, call_passed}
use Rattle.undoing.proofs.CaseKey.{key_readable}
use Rattle.undoing.proofs.Writable.{picked_ends, writable}

-- ---- the register

module _ (reg : List ℕ) (f : Fit (each 8 reg)) (x : CaseTexts) (year quarter : ℕ) (t : CallPassed reg x year quarter) where
  -- the quarter, and the register's room
  abbrev judged_in : Context
  judged_in = record { first = first_day year quarter; last = last_day year quarter; room = room siad (length reg) }

  abbrev m : Machine (State ℕ ℕ) Record
  m = siad_machine judged_in

  abbrev s : State ℕ ℕ
  s = state_of siad reg

  abbrev es : List ℕ
  es = named reg x year quarter

  -- the register's state is sound
  v : Sound (length reg) s
  v = sound_state reg f t.sound

  p : Parts (length reg) s
  p = parts_of (length reg) s v.is_valid

  -- the events that are chosen may be cancelled
  may_cancel : Cancels judged_in x s es
  may_cancel =
      let w : Writable x es = writable reg f x year quarter t in
      record {
        allowed = w.allowed;
        dated = those_pass (dated_in (first_day year quarter) (last_day year quarter)) _;
        confirmed = w.confirmed;
        ends = picked_ends (length reg) s v (case_told x) (first_day year quarter) (last_day year quarter);
        once =
            twice_rows (case_told x) (map said es) (said_readable es ∙ w.allowed)
            ∙ climbing_once _ (ap climbing (said_numbers es) ∙ w.climbs);
        stand = picked_stand (case_told x) (first_day year quarter) (last_day year quarter) s.events p.good.1 v.events_fit;
      }

  -- share after share
  taken_each : AllTaken m x (shares es) s
  taken_each =
      all_shares judged_in x (length reg) refl (key_readable x t.texts) (shares es) (some_each es) s v t.stands
      (subst (Cancels judged_in x s) (sym (joined es)) may_cancel)

  -- every record is accepted, and exactly the events that are named are gone
  pub all_taken : (answers m s (records_said x es) ≡ replicate (length (shares es)) 0)
      × (run m s (records_said x es) ≡ less_chosen (case_told x) (first_day year quarter) (last_day year quarter) s)
  all_taken =
      let e : less_rows (rows_said x es) s.events ≡ those (stays (case_told x) (first_day year quarter) (last_day year quarter)) s.events
      = picked_out (case_told x) (first_day year quarter) (last_day year quarter) s.events p.good.1 v.events_fit in
      (taken_each.zero_each, taken_each.leaves_all ∙ ap (λ (l : List ℕ). less_said x l s) (joined es) ∙ (λ i. record { cases = s.cases; events = e i }))

-- ---- the call

-- as many zeros as answers, and none else
zeros_all : (n : ℕ) → zeros (replicate n 0) ≡ n
unfolding zeros
zeros_all zero = refl
zeros_all (suc n) = omega (arith, zeros_all n)

others_none : (n : ℕ) → others (replicate n 0) ≡ 0
unfolding others
others_none zero = refl
others_none (suc n) = omega (arith, others_none n)

-- a file of Track 2 that passes every test is taken
takes : (c : Call) (reg : List ℕ) (tree : Tree) (n : ℕ) (rs : List Record) → is_period c.year c.quarter ≡ true → c.track ≡ 2 → is_sound reg ≡ true →
    length c.file ≤ longest → document c.file ≡ read tree [] → shape_of (schema_of 2) tree ≡ fine n → crowded_in 2 tree ≡ 0 → entries_of 2 tree ≡ rs →
    length rs ≤ length c.answer_list → submitted c reg ≡ taken_file c reg rs
unfolding submitted
takes c reg tree n rs p k s l d h w e r =
    rw (p, k, s, le-ltb longest (length c.file) l, d, h, w, e, le-ltb (length c.answer_list) (length rs) r)

module _ (reg : List ℕ) (f : Fit (each 8 reg)) (x : CaseTexts) (year quarter : ℕ) (out : List ℕ) (z : (cancel_file reg x year quarter out).answer ≡ 0) where
  abbrev events : List ℕ
  events = named reg x year quarter

  t : CallPassed reg x year quarter
  t = (call_passed reg x year quarter out z).0

  -- the file is at the front of the output
  pub file_is : file_in reg x year quarter out ≡ file_text x events
  file_is =
      ap (λ (w : Written). take w.long w.output) (call_passed reg x year quarter out z).1
      ∙ take_at (file_text x events) (drop (length (file_text x events)) out) (length (file_text x events)) refl

  module _ (b : ReadBack x events) (list : List ℕ) (fits : records_written reg x year quarter ≤ length list) where
    abbrev call : Call
    call = call_of (file_in reg x year quarter out) 2 year quarter list

    -- as many records as shares
    many : length (records_said x events) ≡ records_written reg x year quarter
    many = length-map (shares events) _

    -- the call passes every test
    taken : submitted call reg ≡ taken_file call reg (records_said x events)
    taken =
        takes call reg (tree_read x events) (length (shares events)) (records_said x events) t.period refl t.sound
        (rw file_is (omega (arith, b.short))) (ap document file_is ∙ b.reads) b.shaped b.few b.says (omega (arith, many))

    -- of a file that is read back as what it says: the call's every answer, number, place and byte
    pub undoes_read : submitted call reg ≡ taken_back reg x year quarter list
    undoes_read =
        let rs : List Record = records_said x events in
        let k : ℕ = records_written reg x year quarter in
        let ns : List ℕ = answers (siad_machine (context_of call (length reg))) (state_of siad reg) rs in
        let a : ns ≡ replicate k 0 = (all_taken reg f x year quarter t).0 in
        let yes : zeros ns ≡ k = ap zeros a ∙ zeros_all k in
        let no : others ns ≡ 0 = ap others a ∙ others_none k in
        let left : encode siad (length reg) (run (siad_machine (context_of call (length reg))) (state_of siad reg) rs) ≡ (taken_back reg x year quarter list).register
        = ap (encode siad (length reg)) (all_taken reg f x year quarter t).1 in
        let said : ns ++ drop (length rs) list ≡ replicate k 0 ++ drop k list = ap₂ (λ (l : List ℕ) (n : ℕ). l ++ drop n list) a many in
        taken ∙ (λ i. record { answer = 0; number = 0; records = many i; accepted = yes i; discarded = no i; place = 0; register = left i; answers = said i })
