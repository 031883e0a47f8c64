-- What a call of `siad_submit` leaves in the lent memory (RULES.md, 6 Answers for a file, C4 to C6): every number and every byte.
use Rattle.std.specs.Prelude.{ℕ, ◌≡◌, List, [], ◌∷◌, ◌++◌, length, take, drop}
use Rattle.intake.specs.FileAnswers.{Submitted}

-- C5: "record number, records, accepted, discarded, place"
abbrev pub report_of : Submitted → List ℕ
report_of v = v.number ∷ v.records ∷ v.accepted ∷ v.discarded ∷ v.place ∷ []

-- C5: "a shorter report gets as many as fit, and entries past the fifth stay"
abbrev pub laid_over : List ℕ → List ℕ → List ℕ
laid_over lent numbers = take (length lent) numbers ++ drop (length numbers) lent

-- the answer; the report's numbers over what was lent; the register and the answer list
pub record Told (v : Submitted) (lent : List ℕ) (r : ℕ) (report reg list : List ℕ) : Type 0 where
  pub answer : r ≡ v.answer
  pub numbers : report ≡ laid_over lent (report_of v)
  pub register : reg ≡ v.register
  pub answers : list ≡ v.answers
