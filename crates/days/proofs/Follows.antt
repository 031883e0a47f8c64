-- One computed test of a whole table: each entry is the one before it and the length of the month between; and what it tells of each entry.
use Prim.Native.Nat.{ℕ, zero, suc, ◌+◌, ◌<◌}
use mathlib.Core.Path.{◌≡◌, sym, ap, ◌∙◌}
use mathlib.Core.Bool.{Bool, true, ◌&&◌}
use mathlib.Core.List.{List, [], ◌∷◌}
use native.Mathlib.Omega.{arith}
use lib.Dec.{eqb}
use lib.ListN.{length, get_or}
use borrow.Author.Tests.{eqb-true}
use Rattle.laws.proofs.Truth.{and_left, and_right}
use Rattle.days.specs.DayNumbers.{length_of, first_of, day_count}

-- the entries from month k on, the first of which is x; after the last comes the day after all days
abbrev pub follows : ℕ → ℕ → List ℕ → Bool
follows k x [] = eqb x day_count
follows k x (y ∷ l) = eqb x y && follows (suc k) (x + length_of k) l

pub at_entry : (k x : ℕ) (l : List ℕ) → x ≡ first_of k → follows k x l ≡ true → (i : ℕ) → i < length l → get_or l i 0 ≡ first_of (k + i)
unfolding first_of
at_entry k x [] e f i h = absurd (omega arith)
at_entry k x (y ∷ l) e f zero h =
    let a : k + 0 ≡ k = omega arith in
    rw a (sym (eqb-true x y (and_left (eqb x y) (follows (suc k) (x + length_of k) l) f)) ∙ e)
at_entry k x (y ∷ l) e f (suc i) h =
    let a : k + suc i ≡ suc k + i = omega arith in
    let b : x + length_of k ≡ first_of (suc k) = ap (λ (n : ℕ). n + length_of k) e in
    rw a (at_entry (suc k) (x + length_of k) l b (and_right (eqb x y) (follows (suc k) (x + length_of k) l) f) i (omega arith))

pub at_end_lem : (k x : ℕ) (l : List ℕ) → x ≡ first_of k → follows k x l ≡ true → first_of (k + length l) ≡ day_count
unfolding first_of
at_end_lem k x [] e f =
    let a : k + 0 ≡ k = omega arith in
    rw a (sym e ∙ eqb-true x day_count f)
at_end_lem k x (y ∷ l) e f =
    let a : k + suc (length l) ≡ suc k + length l = omega arith in
    let b : x + length_of k ≡ first_of (suc k) = ap (λ (n : ℕ). n + length_of k) e in
    rw a (at_end_lem (suc k) (x + length_of k) l b (and_right (eqb x y) (follows (suc k) (x + length_of k) l) f))
