-- What writing a cancellation file answers (RULES.md, 14 A cancellation file): one definition that fixes the answer, the length and every byte of the output.
use Rattle.std.specs.Prelude.{ℕ, ◌≡◌, cond, not, List, ◌++◌, eqb, ltb, length, drop}
use Rattle.laws.specs.Lists.{any}
use Rattle.days.specs.Quarters.{is_period, first_day, last_day}
use Rattle.home_care.specs.Row.{key_number}
use Rattle.soundness.specs.Finding.{key_of_texts, found}
use Rattle.cancellation.specs.Chosen.{chosen, replaces}
use Rattle.cancellation.specs.FileText.{CaseTexts, file_text}

-- what the call gives: the answer, the file's length, and the output afterwards
pub record Written : Type 0 where
  pub answer : ℕ
  pub long : ℕ
  pub output : List ℕ

-- the case's key as a number
abbrev pub case_told : CaseTexts → ℕ
case_told x = key_number (key_of_texts x.region x.asl x.date x.id)

-- C9, C10: what finding the case answers
abbrev pub looked_up : List ℕ → CaseTexts → ℕ
looked_up reg x = (found reg x.region x.asl x.date x.id).answer

-- U8: "With any other answer the length is 0, and no byte of the output changes"
abbrev pub unwritten : List ℕ → ℕ → Written
unwritten out answer = record { answer = answer; long = 0; output = out }

-- U7: "With 0 the output begins with the file, the length is the file's, and bytes past it stay"
abbrev pub file_written : List ℕ → List ℕ → Written
file_written out file = record { answer = 0; long = length file; output = file ++ drop (length file) out }

-- U4, U5 and U6: "31 where one of them is a Rivalutazione with conferma 2", "32 where there is none of them", "33 where the output is shorter than the file"
abbrev pub of_chosen : CaseTexts → List ℕ → List ℕ → Written
of_chosen x es out =
    cond (any replaces es) (unwritten out 31)
    (cond (eqb (length es) 0) (unwritten out 32)
    (cond (ltb (length out) (length (file_text x es))) (unwritten out 33) (file_written out (file_text x es))))

-- U2: "then 3 or 30, as finding the case answers"
abbrev pub of_found : List ℕ → CaseTexts → (first last : ℕ) → List ℕ → Written
of_found reg x first last out =
    cond (not (eqb (looked_up reg x) 0)) (unwritten out (looked_up reg x)) (of_chosen x (chosen reg (case_told x) first last) out)

-- U1: "it answers the first of U2, U4, U5 and U6 that holds, else 0"; U2: "1 for a period that F1 refuses"
unfoldable pub cancel_file : List ℕ → CaseTexts → (year quarter : ℕ) → List ℕ → Written
cancel_file reg x year quarter out =
    cond (not (is_period year quarter)) (unwritten out 1) (of_found reg x (first_day year quarter) (last_day year quarter) out)

-- the call's answer, the length that it reports and the output that it leaves
pub record CancelTold (v : Written) (answer long : ℕ) (output : List ℕ) : Type 0 where
  pub answer_is : answer ≡ v.answer
  pub long_is : long ≡ v.long
  pub output_is : output ≡ v.output
