-- What a call's report and the lent bytes after it say.
use Rattle.std.specs.Prelude.{ℕ, ◌≡◌, List}
use Rattle.intake.specs.FileAnswers.{Submitted}
use Rattle.intake.specs.declared.Report.{Report}

pub record Says (v : Submitted) (r : Report) (reg list : List ℕ) : Type 0 where
  pub answer : r.answer ≡ v.answer
  pub number : r.number ≡ v.number
  pub records : r.records ≡ v.records
  pub accepted : r.accepted ≡ v.accepted
  pub discarded : r.discarded ≡ v.discarded
  pub place : r.place ≡ v.place
  pub register : reg ≡ v.register
  pub answers : list ≡ v.answers
