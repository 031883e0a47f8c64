-- The samples as a history: demand 3's theorems have something to say. Between the insertion and its cancellation a record is discarded, and a file ends.
use Prim.Native.Nat.{ℕ, ◌≤◌}
use Prim.Native.Char.{Char}
use Prim.Native.String as string
use mathlib.Core.Path.{◌≡◌, refl, ap, ap₂, ◌∙◌}
use mathlib.Core.Bool.{true}
use mathlib.Core.List.{List, [], ◌∷◌, ◌++◌, append_assoc, map}
use mathlib.Core.Option.{none}
use lib.ListN.{length}
use borrow.Author.Tests.{leb-true}
use Rattle.days.specs.DayNumbers.{first_of}
use Rattle.laws.specs.Lists.{any}
use Rattle.model.specs.Map.{find, has}
use Rattle.model.specs.Log.{LastIs, carries_away, at_zeros}
use Rattle.model.specs.Flow.{State}
use Rattle.rows.specs.Packing.{packs}
use Rattle.register.specs.Layout.{row_in}
use Rattle.register.specs.State.{from, state_of, rows_bytes, encode}
use Rattle.home_care.specs.Row.{siad, key_number, event_number, event_row}
use Rattle.home_care.specs.Record.{Record}
use Rattle.checks.specs.Flow.{case_row, event_rows}
use Rattle.intake.specs.FileAnswers.{Call, Submitted, context_of, submitted}
use Rattle.intake.specs.RecordsIn.{records_in}
use Rattle.intake.specs.Histories.{Entry, entry, entry_flow, reg_after, log_of, CaseSays, EventSays}
use Rattle.intake.proofs.OnBytes.{on_bytes}
use Rattle.intake.proofs.Samples.{admissions, visits, cancellation, withdrawal, mistake, register, key, case_said, visit, admit, send, after_first, after_second, after_fourth, both_stand, gives, says}

abbrev n : ℕ
n = length register

long : 4 ≤ n
long = leb-true 4 n refl

abbrev visit_key : ℕ
visit_key = (event_row (key_number key) (event_number visit) 0).key

-- what a call adds to the log, by its answer list and its records
adds : (xs : List Call) (x : Call) (ns : List ℕ) (rs : List Record) → (submitted x (reg_after register xs)).answer ≡ 0 →
    (submitted x (reg_after register xs)).answers ≡ ns → records_in x ≡ rs →
    log_of n (xs ++ x ∷ []) ≡ log_of n xs ++ map (entry (context_of x n)) (at_zeros ns rs)
adds xs x ns rs z a e =
    (on_bytes register long).log_taken xs x z
    ∙ ap₂ (λ (l : List ℕ) (t : List Record). log_of n xs ++ map (entry (context_of x n)) (at_zeros l t)) a e

abbrev inserting : Entry
inserting = entry (context_of visits n) (send "I")

abbrev cancelling : Entry
cancelling = entry (context_of cancellation n) (send "C")

log_second : log_of n (admissions ∷ visits ∷ []) ≡ log_of n (admissions ∷ []) ++ inserting ∷ []
unfolding at_zeros
log_second =
    let e = ap (submitted visits) after_first ∙ gives.second in
    adds (admissions ∷ []) visits (0 ∷ 20 ∷ 9 ∷ 9 ∷ []) _ (ap (λ (r : Submitted). r.answer) e) (ap (λ (r : Submitted). r.answers) e)
    says.second

log_third : log_of n (admissions ∷ visits ∷ cancellation ∷ []) ≡ log_of n (admissions ∷ visits ∷ []) ++ cancelling ∷ []
unfolding at_zeros
log_third =
    let e = ap (submitted cancellation) after_second ∙ gives.third in
    adds (admissions ∷ visits ∷ []) cancellation (0 ∷ 9 ∷ 9 ∷ 9 ∷ []) _ (ap (λ (r : Submitted). r.answer) e) (ap (λ (r : Submitted). r.answers) e)
    says.third

-- the insertion undone, in two files
pub undone : reg_after register (admissions ∷ visits ∷ cancellation ∷ []) ≡ reg_after register (admissions ∷ [])
undone =
    (on_bytes register long).undone (admissions ∷ []) (visits ∷ cancellation ∷ []) inserting cancelling
    (log_third
    ∙ ap (λ (l : List Entry). l ++ cancelling ∷ []) log_second
    ∙ append_assoc (log_of n (admissions ∷ [])) (inserting ∷ []) (cancelling ∷ []))
    (record { inserts = refl; cancels = refl; cases = λ k. refl; events = λ k. refl })

-- the same of a case, beside another case's events: its cancellation carries none of them away
abbrev mistaking : Char → Entry
mistaking tipo = entry (context_of mistake n) (admit "B" tipo "0101")

log_fifth : log_of n (admissions ∷ visits ∷ mistake ∷ []) ≡ log_of n (admissions ∷ visits ∷ []) ++ mistaking "I" ∷ mistaking "C" ∷ []
unfolding at_zeros
log_fifth =
    let e = ap (submitted mistake) after_second ∙ gives.fifth in
    adds (admissions ∷ visits ∷ []) mistake (0 ∷ 0 ∷ 9 ∷ 9 ∷ []) _ (ap (λ (r : Submitted). r.answer) e) (ap (λ (r : Submitted). r.answers) e) says.fifth

pub case_undone : reg_after register (admissions ∷ visits ∷ mistake ∷ []) ≡ reg_after register (admissions ∷ visits ∷ [])
case_undone =
    (on_bytes register long).undone (admissions ∷ visits ∷ []) (mistake ∷ []) (mistaking "I") (mistaking "C") log_fifth
    (record { inserts = refl; cancels = refl; cases = λ k. refl; events = λ k. refl })

-- ---- the case cancelled while its events stand

abbrev withdrawing : Char → string.String → Entry
withdrawing tipo prevalente = entry (context_of withdrawal n) (admit "A" tipo prevalente)

abbrev later : List Entry
later = withdrawing "C" "0202" ∷ withdrawing "I" "0101" ∷ withdrawing "C" "0101" ∷ []

log_fourth : log_of n (admissions ∷ visits ∷ withdrawal ∷ []) ≡ log_of n (admissions ∷ visits ∷ []) ++ later
unfolding at_zeros
log_fourth =
    let e = ap (submitted withdrawal) after_second ∙ gives.fourth in
    adds (admissions ∷ visits ∷ []) withdrawal (0 ∷ 0 ∷ 0 ∷ 9 ∷ []) _ (ap (λ (r : Submitted). r.answer) e) (ap (λ (r : Submitted). r.answers) e)
    says.fourth

-- the last record with the visit's key inserted it, and a cancellation of its case came later: it doesn't stand
pub visit_last : LastIs (λ e. has visit_key (entry_flow.event_rows e)) (log_of n (admissions ∷ visits ∷ withdrawal ∷ [])) inserting
unfolding find any event_rows packs first_of
visit_last =
    record {
      before = log_of n (admissions ∷ []);
      after = later;
      list = log_fourth ∙ ap (λ (l : List Entry). l ++ later) log_second ∙ append_assoc (log_of n (admissions ∷ [])) (inserting ∷ []) later;
      passes = refl;
      none_after = refl;
    }

pub visit_carried : any (carries_away entry_flow visit_key) later ≡ true
unfolding any packs first_of
visit_carried = refl

pub visit_gone : find visit_key (state_of siad (reg_after register (admissions ∷ visits ∷ withdrawal ∷ []))).events ≡ none
unfolding find rows_bytes encode row_in from packs
visit_gone = ap (λ (b : List ℕ). find visit_key (state_of siad b).events) after_fourth

-- the case and the visit that stand show the fields of the records that were accepted
abbrev case_fields : ℕ
case_fields = (case_row key (case_said "0202")).val

pub case_shown : CaseSays (log_of n (admissions ∷ visits ∷ [])) (key_number key) case_fields
unfolding find packs first_of
case_shown =
    (on_bytes register long).case_fields_lem (admissions ∷ visits ∷ []) (key_number key) case_fields
    (ap (λ (s : State ℕ ℕ). find (key_number key) s.cases) both_stand)

abbrev visit_fields : ℕ
visit_fields = (event_row (key_number key) (event_number visit) 0).val

pub visit_shown : EventSays (log_of n (admissions ∷ visits ∷ [])) visit_key visit_fields
unfolding find packs first_of
visit_shown =
    (on_bytes register long).event_fields (admissions ∷ visits ∷ []) visit_key visit_fields
    (ap (λ (s : State ℕ ℕ). find visit_key s.events) both_stand)
