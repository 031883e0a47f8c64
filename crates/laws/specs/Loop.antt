-- Step after step over what is left of an input.
use Rattle.std.specs.Prelude.{ℕ, zero, suc, List, length}

-- a step answers, or says what is left and what becomes of the answer to that
pub data Step (R : Type 0) : Type 0 where
  stop : R → Step R
  next : (R → R) → List ℕ → Step R

abbrev pub turn : {R : Type 0} → (List ℕ → R) → Step R → R
turn go (stop r) = r
turn go (next f l) = f (go l)

-- at most so many steps; `out` where they do not suffice
unfoldable pub turns : {R : Type 0} → R → (List ℕ → Step R) → ℕ → List ℕ → R
turns out step zero l = out
turns out step (suc n) l = turn (turns out step n) (step l)

-- steps that each leave less suffice, one for each byte and one more
unfoldable pub loop : {R : Type 0} → R → (List ℕ → Step R) → List ℕ → R
loop out step l = turns out step (suc (length l)) l
