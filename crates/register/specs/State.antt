-- A register's bytes and the state that they are (RULES.md, 4 The register).
use Rattle.std.specs.Prelude.{ℕ, zero, suc, ◌+◌, ◌-◌, ◌*◌, ◌/◌, ◌%◌, ◌^◌, List, [], ◌∷◌, ◌++◌, length, replicate}
use Rattle.model.specs.Map.{Row, Map}
use Rattle.model.specs.Flow.{State}
use Rattle.rows.specs.Packing.{digits}
use Rattle.register.specs.Layout.{Layout, case_rest, event_rest, cases_held, events_held, row_at, row_in}

-- what f gives at the k places from i on
unfoldable pub from : {A : Type 0} → (ℕ → A) → ℕ → ℕ → List A
from f i zero = []
from f i (suc k) = f i ∷ from f (suc i) k

-- a row of w bits after its key, as a number and back
abbrev pub unsplit : ℕ → Row ℕ → ℕ
unsplit w r = r.key * 2 ^ w + r.val

abbrev pub split : ℕ → ℕ → Row ℕ
split w n = record { key = n / 2 ^ w; val = n % 2 ^ w }

-- the key among the first bits q, where s at their end don't belong to it: they are zeros in the key
abbrev pub key_by : ℕ → ℕ → ℕ
key_by s q = q / 2 ^ s * 2 ^ s

-- a row cut so: its first bits, before the last w, tell how many of them are spare, and these go with the rest
abbrev pub split_by : (ℕ → ℕ) → ℕ → ℕ → Row ℕ
split_by spare w n =
    let s = spare (n / 2 ^ w) in
    record { key = key_by s (n / 2 ^ w); val = n % 2 ^ (s + w) }

module _ (l : Layout) where
  -- R2: "all cases and then all events": what stands
  abbrev pub cases_from : List ℕ → ℕ → ℕ → Map ℕ
  cases_from reg i k = from (λ j. split (case_rest l) (row_in l reg j)) i k

  abbrev pub events_from : List ℕ → ℕ → ℕ → Map ℕ
  events_from reg i k = from (λ j. split_by l.spare (event_rest l) (row_in l reg j)) i k

  abbrev pub state_of : List ℕ → State ℕ ℕ
  state_of reg =
      record { cases = cases_from reg 0 (cases_held reg); events = events_from reg (cases_held reg) (events_held reg) }

  -- the bytes that a state has in a register of n bytes: counts, rows, and R5: "Every byte past the last standing row is zero"
  unfoldable pub rows_bytes : ℕ → Map ℕ → List ℕ
  rows_bytes w [] = []
  rows_bytes w (r ∷ m) = digits l.bytes (unsplit w r) ++ rows_bytes w m

  abbrev pub used : State ℕ ℕ → ℕ
  used s = row_at l (length s.cases + length s.events)

  unfoldable pub encode : ℕ → State ℕ ℕ → List ℕ
  encode n s =
      digits 2 (length s.cases) ++ (digits 2 (length s.events) ++
      (rows_bytes (case_rest l) s.cases ++ (rows_bytes (event_rest l) s.events ++ replicate (n - used s) 0)))
