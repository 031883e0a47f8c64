-- Rows that end within a register, and few of them.
use Prim.Native.Nat.{ℕ, ◌+◌, ◌*◌, ◌≤◌}
use native.Mathlib.Nat.{mul-le-mul_left, mul-le-mul_right}
use native.Mathlib.Omega.{arith}

pub rows_before : (w i j n : ℕ) → i ≤ j → 4 + w * j ≤ n → 4 + w * i ≤ n
rows_before w i j n h l = omega (arith, mul-le-mul_left w h)

pub rows_few : (w k n : ℕ) → 1 ≤ w → 4 + w * k ≤ n → 4 + k ≤ n
rows_few w k n h l = omega (arith, mul-le-mul_right k h)
