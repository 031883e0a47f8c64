-- A state, and records applied to it (RULES.md, G7: "Records are taken in file order, each judged against the register that the
-- earlier ones left").
use Rattle.std.specs.Prelude.{ℕ, ◌+◌, Bool, cond, List, [], ◌∷◌, eqb}

-- how many answers are 0, how many are not
unfoldable pub zeros : List ℕ → ℕ
zeros [] = 0
zeros (n ∷ ns) = cond (eqb n 0) 1 0 + zeros ns

unfoldable pub others : List ℕ → ℕ
others [] = 0
others (n ∷ ns) = cond (eqb n 0) 0 1 + others ns

-- the answer to a record, and what an accepted record makes of the state
pub record Machine (S R : Type 0) : Type 0 where
  pub judge : S → R → ℕ
  pub act : S → R → S

module _ {S R : Type 0} (m : Machine S R) where
  -- J1: "0 is acceptance"
  abbrev pub accepts : S → R → Bool
  accepts s r = eqb (m.judge s r) 0

  -- a discarded record changes nothing
  abbrev pub step : S → R → S
  step s r = cond (accepts s r) (m.act s r) s

  -- of a file's records in the order in which they are applied: the state after them
  unfoldable pub run : S → List R → S
  run s [] = s
  run s (r ∷ rs) = run (step s r) rs

  -- their answers
  unfoldable pub answers : S → List R → List ℕ
  answers s [] = []
  answers s (r ∷ rs) = m.judge s r ∷ answers (step s r) rs
