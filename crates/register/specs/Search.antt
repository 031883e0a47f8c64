-- Rows found by the first bits of a probe row.
use Rattle.std.specs.Prelude.{ℕ, ◌+◌, ◌-◌, ◌*◌, ◌/◌, ◌^◌, ◌≤◌, ◌<◌, ◌≡◌, List, take, drop}
use Rattle.rows.specs.Packing.{num}

-- the first k bits of row i, as a number
unfoldable pub key_at : ℕ → ℕ → List ℕ → ℕ → ℕ
key_at w k reg i = num (take w (drop (4 + w * i) reg)) / 2 ^ (8 * w - k)

-- the first k bits of a row of w bytes, as a number
unfoldable pub probe_key : ℕ → ℕ → List ℕ → ℕ
probe_key w k row = num row / 2 ^ (8 * w - k)

-- the numbers at the places from lo up to hi do not fall
abbrev pub Rises : (ℕ → ℕ) → ℕ → ℕ → Type 0
Rises f lo hi = (p q : ℕ) → lo ≤ p → p < q → q < hi → f p ≤ f q

-- r is the first place from lo up to hi at which f is not below v, or hi
pub record Placed (f : ℕ → ℕ) (v lo hi r : ℕ) : Type 0 where
  pub low : lo ≤ r
  pub high : r ≤ hi
  pub under : Rises f lo hi → (k : ℕ) → lo ≤ k → k < r → f k < v
  pub over : Rises f lo hi → (k : ℕ) → r ≤ k → k < hi → v ≤ f k

-- the places from a up to e are those of v among the places from lo up to hi
pub record Ranged (f : ℕ → ℕ) (v lo hi a e : ℕ) : Type 0 where
  pub low : lo ≤ a
  pub mid : a ≤ e
  pub high : e ≤ hi
  pub before : Rises f lo hi → (k : ℕ) → lo ≤ k → k < a → f k < v
  pub inside : Rises f lo hi → (k : ℕ) → a ≤ k → k < e → f k ≡ v
  pub after : Rises f lo hi → (k : ℕ) → e ≤ k → k < hi → v < f k
