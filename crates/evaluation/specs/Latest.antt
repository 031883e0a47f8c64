-- The evaluation in force in other words (RULES.md, N4): no order of rows is spoken of.
use Rattle.std.specs.Prelude.{ℕ, ◌≤◌, ◌≡◌, true}
use Rattle.std.proofs.Math.Option.{some}
use Rattle.model.specs.Map.{Row, find}
use Rattle.model.specs.Flow.{State}
use Rattle.register.specs.Layout.{case_named}
use Rattle.home_care.specs.Row.{Evaluation, own_evaluation, siad, case_in, event_number_in, evaluation_in, evaluation_of, date_of}
use Rattle.evaluation.specs.InForce.{in_force_by}

-- an event of the case c stands, and passes on that day
pub record Candidate (s : State ℕ ℕ) (c day : ℕ) (r : Row ℕ) : Type 0 where
  pub stands : find r.key s.events ≡ some r.val
  pub of_case : case_named siad r.key ≡ c
  pub passes : in_force_by day r ≡ true

-- N4: "those of the latest Rivalutazione of the case that ..; where there is none, the case's own"
pub data IsInForce (s : State ℕ ℕ) (c day : ℕ) (v : Evaluation) : Type 0 where
  renewed : (r : Row ℕ) → Candidate s c day r → ((q : Row ℕ) → Candidate s c day q → date_of (event_number_in q) ≤ date_of (event_number_in r)) →
      v ≡ evaluation_of (evaluation_in r) → IsInForce s c day v
  own : (u : ℕ) → find c s.cases ≡ some u → ((q : Row ℕ) → Candidate s c day q → ⊥) → v ≡ own_evaluation (case_in u) → IsInForce s c day v
