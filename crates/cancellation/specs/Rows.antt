-- Where the rows stand that a cancellation file is written from.
use Rattle.std.specs.Prelude.{ℕ, ◌≤◌, ◌<◌, List, length}
use Rattle.register.specs.View.{most_counted}
use Rattle.register.specs.Layout.{row_at}
use Rattle.home_care.specs.Row.{siad}

-- the rows from lo up to hi stand in the register
pub record RowsIn (reg : List ℕ) (lo hi : ℕ) : Type 0 where
  pub order : lo ≤ hi
  pub inside : row_at siad hi ≤ length reg
  pub few : hi < most_counted
