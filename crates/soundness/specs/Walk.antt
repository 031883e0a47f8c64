-- The walk over the rows: a case's events are the next ones.
use Rattle.std.specs.Prelude.{ℕ, ◌+◌, ◌/◌, ◌^◌, Bool, cond, ◌&&◌, List, [], ◌∷◌, eqb, length, Option, None, Some}
use Rattle.laws.specs.Lists.{all}
use Rattle.model.specs.Map.{Map}
use Rattle.register.specs.Layout.{case_named, case_rest, row_in}
use Rattle.register.specs.Sound.{Rules, ascending}
use Rattle.home_care.specs.Row.{home_care}
use Rattle.soundness.specs.Sound.{home_care_rules}

-- the rows of the case c at the front, where own is the case that a key names
unfoldable pub run_of : (ℕ → ℕ) → ℕ → Map ℕ → Map ℕ
run_of own c [] = []
run_of own c (x ∷ m) = cond (eqb (own x.key) c) (x ∷ run_of own c m) []

-- a case's events: every row allowed, keys ascending, free together
abbrev pub good_run : Rules → ℕ → Map ℕ → Bool
good_run rules c m = all rules.event_row m && (ascending m && rules.together c m)

-- the key of the case in row i, of w bytes
abbrev pub case_at : ℕ → List ℕ → ℕ → ℕ
case_at w reg i = row_in (home_care w) reg i / 2 ^ case_rest (home_care w)

-- the answer for the case c and the rows m of w bytes, of which the first is row j: the row at which its events end, where they are good
abbrev pub ran : ℕ → ℕ → ℕ → Map ℕ → Option ℕ
ran w c j m =
    cond (good_run (home_care_rules w) c (run_of (case_named (home_care w)) c m)) (Some (j + length (run_of (case_named (home_care w)) c m))) None
