-- The chosen events in some rows, from one row to the next.
use Prim.Native.Nat.{ℕ, suc, ◌+◌, ◌-◌, ◌≤◌, ◌<◌}
use mathlib.Core.Path.{◌≡◌, ap, ◌∙◌}
use mathlib.Core.Bool.{Bool, true, false, cond}
use mathlib.Core.List.{List, [], ◌∷◌}
use native.Mathlib.Omega.{arith}
use lib.ListN.{length, length-map}
use Rattle.register.proofs.From.{from-length}
use Rattle.home_care.specs.Row.{event_number_in}
use Rattle.home_care.specs.EventRows.{event_at}
use Rattle.judge.specs.CaseRows.{standing_in}
use Rattle.judge.proofs.Rows.{row, next_row, no_row}
use Rattle.register.specs.State.{from}
use Rattle.cancellation.specs.Chosen.{those, dated_in}
use Rattle.cancellation.specs.View.{chosen_in}

-- those that pass a test are no more than all
those_few : (p : ℕ → Bool) (l : List ℕ) → length (those p l) ≤ length l
unfolding those
those_few p [] = omega arith
those_few p (x ∷ l) = kept_few (those p l) (p x) (those_few p l)
  where
    kept_few : (m : List ℕ) (b : Bool) → length m ≤ length l → length (cond b (x ∷ m) m) ≤ suc (length l)
    kept_few m true h = omega arith
    kept_few m false h = omega arith

module _ (reg : List ℕ) (first last i hi : ℕ) where
  -- of no rows none are chosen
  pub chosen_none : hi ≤ i → chosen_in reg first last i hi ≡ []
  unfolding those
  chosen_none h = ap (those (dated_in first last)) (no_row reg i hi h)

  -- the first row's event comes first, where its day is one of those
  pub chosen_next : i < hi → dated_in first last (event_at reg i) ≡ true →
      chosen_in reg first last i hi ≡ event_at reg i ∷ chosen_in reg first last (i + 1) hi
  unfolding those
  chosen_next h t = ap (those (dated_in first last)) (next_row reg i hi h) ∙ rw t

  -- and is left out, where it isn't
  pub chosen_skip : i < hi → dated_in first last (event_at reg i) ≡ false →
      chosen_in reg first last i hi ≡ chosen_in reg first last (i + 1) hi
  unfolding those
  chosen_skip h t = ap (those (dated_in first last)) (next_row reg i hi h) ∙ rw t

  -- there are no more than rows
  pub chosen_few : length (chosen_in reg first last i hi) ≤ hi - i
  chosen_few =
      let n = those_few (dated_in first last) (standing_in reg i hi) in
      omega (arith, length-map (from (row reg) i (hi - i)) event_number_in, from-length (row reg) i (hi - i))
