-- A cancellation file taken for its quarter by the register that it was written from (RULES.md, U17).
use Rattle.std.specs.Prelude.{ℕ, Bool, not, ◌&&◌, List, ◌++◌, eqb, length, take, drop, replicate}
use Rattle.days.specs.Quarters.{first_day, last_day}
use Rattle.model.specs.Map.{Row}
use Rattle.model.specs.Flow.{State}
use Rattle.register.specs.Layout.{case_named}
use Rattle.register.specs.State.{state_of, encode}
use Rattle.home_care.specs.Row.{siad, event_number_in}
use Rattle.intake.specs.FileAnswers.{Submitted}
use Rattle.cancellation.specs.Chosen.{those, dated_in, chosen}
use Rattle.cancellation.specs.FileText.{CaseTexts, shares}
use Rattle.cancellation.specs.CancelFile.{case_told, cancel_file}

-- U17: "exactly the case's other events, and everything else as it was": an event stays unless it is the case's and check 10 places it between two days
abbrev pub stays : ℕ → (first last : ℕ) → Row ℕ → Bool
stays c first last r = not (eqb (case_named siad r.key) c && dated_in first last (event_number_in r))

abbrev pub less_chosen : ℕ → (first last : ℕ) → State ℕ ℕ → State ℕ ℕ
less_chosen c first last s = record { cases = s.cases; events = those (stays c first last) s.events }

module _ (reg : List ℕ) (x : CaseTexts) (year quarter : ℕ) where
  -- how many records the file has
  abbrev pub records_written : ℕ
  records_written = length (shares (chosen reg (case_told x) (first_day year quarter) (last_day year quarter)))

  -- the file in the output
  abbrev pub file_in : List ℕ → List ℕ
  file_in out = take (cancel_file reg x year quarter out).long (cancel_file reg x year quarter out).output

  -- U17: "it is answered 0 and every record is accepted", with an answer list of any bytes
  abbrev pub taken_back : List ℕ → Submitted
  taken_back list =
      record {
        answer = 0;
        number = 0;
        records = records_written;
        accepted = records_written;
        discarded = 0;
        place = 0;
        register = encode siad (length reg) (less_chosen (case_told x) (first_day year quarter) (last_day year quarter) (state_of siad reg));
        answers = replicate records_written 0 ++ drop records_written list;
      }
