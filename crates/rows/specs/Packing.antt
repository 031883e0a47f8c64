-- Fields packed (RULES.md, R6: "from its first bit on, the most significant bit first, without space between them"): a row is one natural number.
use Rattle.std.specs.Prelude.{ℕ, ◌+◌, ◌-◌, ◌*◌, ◌/◌, ◌%◌, ◌^◌, ◌<◌, ◌≡◌, List, [], ◌∷◌, length, replicate}

-- a field: how many bits it has, and its value
pub record Field : Type 0 where
  pub wide : ℕ
  pub value : ℕ

-- a field of w bits with the value v
abbrev pub bits : ℕ → ℕ → Field
bits w v = record { wide = w; value = v }

-- one field of w bits for each value, as R11's "3 x 7"
abbrev pub each : ℕ → List ℕ → List Field
each w [] = []
each w (v ∷ vs) = bits w v ∷ each w vs

-- the number that the fields make below the number n
unfoldable pub packs : List Field → ℕ → ℕ
packs [] n = n
packs (f ∷ fs) n = packs fs (n * 2 ^ f.wide + f.value)

-- the fields' widths
abbrev pub widths : List Field → List ℕ
widths [] = []
widths (f ∷ fs) = f.wide ∷ widths fs

-- the fields' values
abbrev pub values : List Field → List ℕ
values [] = []
values (f ∷ fs) = f.value ∷ values fs

-- the sum of some widths
abbrev pub total : List ℕ → ℕ
total [] = 0
total (w ∷ ws) = w + total ws

-- how many bits the fields have together
abbrev pub width : List Field → ℕ
width fs = total (widths fs)

-- each value has no more bits than its field
abbrev pub Fit : List Field → Type 0
Fit [] = Unit
Fit (f ∷ fs) = (f.value < 2 ^ f.wide) × Fit fs

-- the number that bytes make: bytes are fields of 8 bits
abbrev pub num : List ℕ → ℕ
num bs = packs (each 8 bs) 0

-- the w bits of a number that have k bits below them
abbrev pub field_at : ℕ → ℕ → ℕ → ℕ
field_at k w n = n / 2 ^ k % 2 ^ w

-- the values that fields of these widths have in a number
abbrev pub unpacks : List ℕ → ℕ → List ℕ
unpacks [] n = []
unpacks (w ∷ ws) n = field_at (total ws) w n ∷ unpacks ws n

-- the k bytes of a number
abbrev pub digits : ℕ → ℕ → List ℕ
digits k n = unpacks (replicate k 8) n

-- fields of these widths with these values
abbrev pub fields : List ℕ → List ℕ → List Field
fields [] vs = []
fields (w ∷ ws) [] = bits w 0 ∷ fields ws []
fields (w ∷ ws) (v ∷ vs) = bits w v ∷ fields ws vs

-- the first k bits of a row of bytes, as a number
abbrev pub first_bits : ℕ → List ℕ → ℕ
first_bits k bs = num bs / 2 ^ (8 * length bs - k)

-- r is what the w bits after a row's first `at` bits hold
pub record HeldAt (row : List ℕ) (at w r : ℕ) : Type 0 where
  pub value : r ≡ field_at (8 * length row - (at + w)) w (num row)
  pub small : r < 2 ^ w

-- k fields of w bits each, with `below` bits below the last
abbrev pub each_at : ℕ → ℕ → ℕ → ℕ → List ℕ
each_at below k w n = unpacks (replicate k w) (n / 2 ^ below)

-- a row of n bytes: the fields, then zero bits
abbrev pub row_number : ℕ → List Field → ℕ
row_number n fs = packs fs 0 * 2 ^ (8 * n - width fs)
