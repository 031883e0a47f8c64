-- A gap among a register's rows, and rows found by a field.
use Rattle.std.specs.Prelude.{ℕ, ◌+◌, ◌-◌, ◌*◌, ◌≡◌, List, ◌++◌, length, take, drop}
use Rattle.rows.specs.Packing.{num, field_at}

-- b is a, whose n rows have w bytes, with a gap of j rows in front of row i: as many bytes behind the rows are gone
pub record Gap (w i j n : ℕ) (a b : List ℕ) : Type 0 where
  pub front : List ℕ
  pub rows : List ℕ
  pub lost : List ℕ
  pub hole : List ℕ
  pub back : List ℕ
  pub whole : a ≡ front ++ (rows ++ (lost ++ back))
  pub opened : b ≡ front ++ (hole ++ (rows ++ back))
  pub front_long : length front ≡ 4 + w * i
  pub rows_long : length front + length rows ≡ 4 + w * n
  pub lost_long : length lost ≡ w * j
  pub hole_long : length hole ≡ w * j

-- a part whose rows have gone j rows on, with a row in the last place of the gap that they leave; as many bytes at its end are gone
unfoldable pub opened_wide : ℕ → ℕ → List ℕ → List ℕ → List ℕ
opened_wide w j row p = take (w * (j - 1)) p ++ (row ++ take (length p - w * j) p)

-- the bytes of row i
abbrev pub bytes_at : ℕ → List ℕ → ℕ → List ℕ
bytes_at w reg i = take w (drop (4 + w * i) reg)

-- the k bits after the first `at` of row i
unfoldable pub field_in : ℕ → ℕ → ℕ → List ℕ → ℕ → ℕ
field_in w at k reg i = field_at (8 * w - (at + k)) k (num (bytes_at w reg i))
