-- One call: refused files change nothing, and of a taken one each answer, count and byte is fixed. What DEMAND 2 so excludes: Excluded, of a sample's call;
-- model's Excluded, of any machine.
use Prim.Native.Nat.{ℕ, ◌+◌, ◌-◌, ◌≤◌, ◌<◌}
use mathlib.Core.Path.{◌≡◌, refl, sym, ap, ◌∙◌, subst}
use mathlib.Core.Logic.{◌≢◌}
use mathlib.Core.Bool.{Bool, true, false}
use mathlib.Core.List.{List, []}
use native.Mathlib.Decide.{ℕ_discrete}
use native.Mathlib.Omega.{arith}
use lib.Dec.{ltb}
use lib.ListN.{length, take, drop, get_or, length-append, length-drop, get_or-append}
use lib.Seq.{take_at, drop_at, get_or-drop, ext_get_or}
use borrow.Author.Tests.{ltb-true, ltb-false}
use Rattle.model.specs.Machine.{answers}
use Rattle.model.specs.Demands.{Counted}
use Rattle.model.proofs.MapPlace.{asc_once}
use Rattle.model.proofs.MachineLaws.{answers_each, answers-length, zeros-others}
use Rattle.model.proofs.Demands.{counted_once}
use Rattle.rows.specs.Packing.{each, Fit}
use Rattle.register.specs.State.{state_of}
use Rattle.home_care.specs.Row.{siad}
use Rattle.home_care.specs.Record.{Record, events}
use Rattle.checks.specs.CheckOrder.{siad_machine}
use Rattle.checks.proofs.Accepted.{siad_demand2, never_16}
use Rattle.checks.proofs.Valid.{Sound, parts_of}
use Rattle.intake.specs.FileAnswers.{Call, Submitted, taken_file, submitted}
use Rattle.intake.specs.RecordsIn.{records_in}
use Rattle.intake.specs.Demands.{Refused, Answered, context, left_by, left}
use Rattle.intake.proofs.Outcome.{Passed, Why, fault, other, Outcome, stopped, passed, outcome, taken_passed}
use Rattle.intake.proofs.SoundBytes.{sound_long, state_back, state_sound}
use Rattle.intake.proofs.Sound.{left_sound}

-- two answers with the same numbers and bytes, but for the file's
pub record Alike (a b : Submitted) : Type 0 where
  pub records : a.records ≡ b.records
  pub answers : a.answers ≡ b.answers
  pub accepted : a.accepted ≡ b.accepted
  pub discarded : a.discarded ≡ b.discarded
  pub register : a.register ≡ b.register
  pub number : a.number ≡ b.number
  pub place : a.place ≡ b.place

-- any record, where a list has none
abbrev blank : Record
blank = events (record { tipo = 0; key = record { region = 0; asl = []; taken = 0; id = [] } }) []

module _ (x : Call) (reg : List ℕ) where
  abbrev call : Submitted
  call = submitted x reg

  abbrev rs : List Record
  rs = records_in x

  abbrev whole : Submitted
  whole = taken_file x reg rs

  -- DEMAND 1: a refused file changes no lent byte
  pub refused_keeps : call.answer ≢ 0 → Refused x reg call
  refused_keeps z = go (outcome x reg)
    where
      -- which refusals tell a record number, and which a place
      number_why : {a n p : ℕ} → Why x reg a n p → a ≢ 6 → a ≢ 7 → n ≡ 0
      number_why (fault e f) u v = absurd (u e)
      number_why (other w k q) u v = k v

      place_why : {a n p : ℕ} → Why x reg a n p → a ≢ 6 → p ≡ 0
      place_why (fault e f) u = absurd (u e)
      place_why (other w k q) u = q

      go : Outcome x reg → Refused x reg call
      go (stopped a n p e _ k) =
          let a-is : call.answer ≡ a = ap (λ (r : Submitted). r.answer) e in
          record {
            register = ap (λ (r : Submitted). r.register) e;
            answers = ap (λ (r : Submitted). r.answers) e;
            records = ap (λ (r : Submitted). r.records) e;
            accepted = ap (λ (r : Submitted). r.accepted) e;
            discarded = ap (λ (r : Submitted). r.discarded) e;
            number = λ u v. ap (λ (r : Submitted). r.number) e ∙ number_why k (λ q. u (a-is ∙ q)) (λ q. v (a-is ∙ q));
            place = λ u. ap (λ (r : Submitted). r.place) e ∙ place_why k (λ q. u (a-is ∙ q));
          }
      go (passed p) = absurd (z (ap (λ (r : Submitted). r.answer) p.gives))

  -- the answers of the file's records, in the list's first bytes
  abbrev ns : List ℕ
  ns = answers (siad_machine (context x reg)) (state_of siad reg) rs

  ns-length : length ns ≡ length rs
  ns-length = answers-length (siad_machine (context x reg)) (state_of siad reg) rs

  -- byte i is record i's answer
  byte : (d : Record) (i : ℕ) → i < length rs →
      get_or whole.answers i 0 ≡ (siad_machine (context x reg)).judge (left_by x reg i) (get_or rs i d)
  byte d i l =
      get_or-append ns (drop (length rs) x.answer_list) 0 i (omega (arith, ns-length))
      ∙ answers_each (siad_machine (context x reg)) (state_of siad reg) rs d i l

  whole_answered : Fit (each 8 reg) → Passed x reg → Answered x reg whole
  whole_answered f p =
      let h = p.room in
      let d2 = siad_demand2 (context x reg) in
      let n : ℕ = length reg in
      let long : 4 ≤ n = sound_long reg f p.sound in
      let kept : Sound n (left x reg) = left_sound x reg f p in
      let good = (parts_of n (left x reg) kept.is_valid).good in
      record {
        records = refl;
        zero = λ d i l. (
          λ e. (d2.accepted (left_by x reg i) (get_or rs i d)).0 (sym (byte d i l) ∙ e),
          λ e. byte d i l ∙ (d2.accepted (left_by x reg i) (get_or rs i d)).1 e,
        );
        other = λ d i n l z. (
          λ e. (d2.discarded (left_by x reg i) (get_or rs i d) n z).0 (sym (byte d i l) ∙ e),
          λ e. byte d i l ∙ (d2.discarded (left_by x reg i) (get_or rs i d) n z).1 e,
        );
        never_16 = λ i l e. never_16 (context x reg) (left_by x reg i) (get_or rs i blank) (sym (byte blank i l) ∙ e);
        long = length-append ns (drop (length rs) x.answer_list) ∙ omega (arith, ns-length, length-drop (length rs) x.answer_list);
        later = drop_at ns (drop (length rs) x.answer_list) (length rs) ns-length;
        counts =
            rw (take_at ns (drop (length rs) x.answer_list) (length rs) ns-length)
            (record { as_many = ns-length; together = zeros-others ns ∙ ns-length; zeros_are = refl });
        number = refl;
        place = refl;
        register = refl;
        stands = state_back n long (left x reg) kept;
        cases_once = asc_once 0 (left x reg).cases good.0;
        events_once = asc_once 0 (left x reg).events good.1;
        sound = state_sound n long (left x reg) kept;
      }

  -- DEMAND 2: of a file taken into any register, each byte of the answer list, the later ones, the counts, and the register's bytes
  pub taken_answers : Fit (each 8 reg) → call.answer ≡ 0 → Answered x reg call
  taken_answers f z =
      let p = taken_passed x reg z in
      subst (Answered x reg) (sym p.gives) (whole_answered f p)

  -- ---- demand 2 fixes them all

  -- the bytes past the records are the list's
  past : (r : Submitted) → Answered x reg r → (i : ℕ) → r.records ≤ i → get_or r.answers i 0 ≡ get_or x.answer_list i 0
  past r h i l =
      let n : ℕ = r.records in
      let e : n + (i - n) ≡ i = omega arith in
      sym (ap (λ (j : ℕ). get_or r.answers j 0) e)
      ∙ sym (get_or-drop n r.answers (i - n) 0)
      ∙ ap (λ (t : List ℕ). get_or t (i - n) 0) h.later
      ∙ get_or-drop n x.answer_list (i - n) 0
      ∙ ap (λ (j : ℕ). get_or x.answer_list j 0) e

  module _ (a b : Submitted) (h : Answered x reg a) (g : Answered x reg b) where
    records_same : a.records ≡ b.records
    records_same = h.records ∙ sym g.records

    byte_same : (i : ℕ) → i < a.records → Dec (get_or b.answers i 0 ≡ 0) → get_or a.answers i 0 ≡ get_or b.answers i 0
    byte_same i l (yes z) =
        let k : i < b.records = omega (arith, records_same) in
        (h.zero blank i l).1 ((g.zero blank i k).0 z) ∙ sym z
    byte_same i l (no z) =
        let k : i < b.records = omega (arith, records_same) in
        (h.other blank i (get_or b.answers i 0) l z).1 ((g.other blank i (get_or b.answers i 0) k z).0 refl)

    each_same : (i : ℕ) (t : Bool) → ltb i a.records ≡ t → get_or a.answers i 0 ≡ get_or b.answers i 0
    each_same i true e = byte_same i (ltb-true i a.records e) (ℕ_discrete (get_or b.answers i 0) 0)
    each_same i false e =
        let l : a.records ≤ i = ltb-false i a.records e in
        past a h i l ∙ sym (past b g i (omega (arith, records_same)))

    answers_same : a.answers ≡ b.answers
    answers_same = ext_get_or 0 a.answers b.answers (h.long ∙ sym g.long) (λ i _. each_same i (ltb i a.records) refl)

    -- what a taken file is given is one, in every answer, number, place and byte
    pub answered_once : Alike a b
    answered_once =
        let k : Counted (take a.records a.answers) b.records b.accepted b.discarded = rw (records_same, answers_same) g.counts in
        let c = counted_once h.counts k in
        record {
          records = records_same;
          answers = answers_same;
          accepted = c.1;
          discarded = c.2;
          register = h.register ∙ sym g.register;
          number = h.number ∙ sym g.number;
          place = h.place ∙ sym g.place;
        }
