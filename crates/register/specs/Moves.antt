-- What storing does to a register's bytes, over rows of w bytes.
use Rattle.std.specs.Prelude.{ℕ, ◌+◌, ◌-◌, ◌*◌, List, ◌++◌, length, take, drop, replicate}
use Rattle.rows.specs.Packing.{digits}

-- f done to the part of k bytes that starts at `from`; every other byte stays
unfoldable pub on_part : (List ℕ → List ℕ) → ℕ → ℕ → List ℕ → List ℕ
on_part f from k reg = take from reg ++ (f (take k (drop from reg)) ++ drop k (drop from reg))

-- a part that starts with a new row, and has lost as many bytes at its end
unfoldable pub opened_by : List ℕ → List ℕ → List ℕ
opened_by row p = row ++ take (length p - length row) p

-- a part that has lost its first w bytes, and ends in as many zeros
unfoldable pub closed_up : ℕ → List ℕ → List ℕ
closed_up w p = drop w p ++ replicate w 0

-- a row put in front of row i of n
abbrev pub inserted : ℕ → ℕ → ℕ → List ℕ → List ℕ → List ℕ
inserted w i n row reg = on_part (opened_by row) (4 + w * i) (4 + w * (n + 1) - (4 + w * i)) reg

-- a row written over row i
abbrev pub replaced : ℕ → ℕ → List ℕ → List ℕ → List ℕ
replaced w i row reg = on_part (λ p. row) (4 + w * i) w reg

-- row i of n taken out, and zeros behind the others
abbrev pub removed : ℕ → ℕ → ℕ → List ℕ → List ℕ
removed w i n reg = on_part (closed_up w) (4 + w * i) (4 + w * n - (4 + w * i)) reg

-- rows i up to i + j of n taken out, and zeros behind the others
abbrev pub removed_rows : ℕ → ℕ → ℕ → ℕ → List ℕ → List ℕ
removed_rows w i j n reg = on_part (closed_up (w * j)) (4 + w * i) (4 + w * n - (4 + w * i)) reg

-- the count at two bytes of the header
unfoldable pub with_count : ℕ → ℕ → List ℕ → List ℕ
with_count at v reg = take at reg ++ (digits 2 v ++ drop (at + 2) reg)
