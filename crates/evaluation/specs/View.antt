-- What the code's answers say of the rows of a case.
use Rattle.std.specs.Prelude.{ℕ, ◌≤◌, ◌<◌, ◌≡◌, true, false, List, ltb, length, Option, None, Some, Result, Ok, Err}
use Rattle.model.specs.Map.{Row, has, keep}
use Rattle.register.specs.Layout.{row_at, row_in, event_rest}
use Rattle.register.specs.State.{split_by, state_of}
use Rattle.home_care.specs.Row.{siad}
use Rattle.soundness.specs.Sound.{is_sound}
use Rattle.soundness.specs.declared.find.Missing.{Missing}
use Rattle.soundness.specs.View.{number_of}
use Rattle.evaluation.specs.InForce.{in_force_by}

-- the number for each answer (N2, N3)
abbrev pub answer_of : Result Unit Missing → ℕ
answer_of (Ok _) = 0
answer_of (Err m) = number_of m

-- the event in row i
abbrev pub event_row_at : List ℕ → ℕ → Row ℕ
event_row_at reg i = split_by siad.spare (event_rest siad) (row_in siad reg i)

-- the last of the rows from lo up to hi that is in force on the day, or none is
abbrev pub LastKept : List ℕ → ℕ → ℕ → ℕ → Option ℕ → Type 0
LastKept reg day lo hi (Some i) =
    (lo ≤ i) × (i < hi) × (in_force_by day (event_row_at reg i) ≡ true) × ((j : ℕ) → i < j → j < hi → in_force_by day (event_row_at reg j) ≡ false)
LastKept reg day lo hi None = (j : ℕ) → lo ≤ j → j < hi → in_force_by day (event_row_at reg j) ≡ false

-- the case c stands in a sound register, and its row begins at the place
pub record StandsAt (reg : List ℕ) (c place : ℕ) : Type 0 where
  pub sound : is_sound reg ≡ true
  pub stands : has c (state_of siad reg).cases ≡ true
  pub there : place ≡ row_at siad (length (keep (λ k. ltb k c) (state_of siad reg).cases))
