-- Names of a table's rows.
use Prim.Native.Nat.{ℕ, ◌+◌, ◌-◌}
use mathlib.Core.Path.{◌≡◌}
use mathlib.Core.List.{List}
use native.Mathlib.Omega.{arith}
use lib.ListN.{take, drop}

pub name_part : (pool : List ℕ) {a b m n : ℕ} → a ≡ b → m ≡ n → take ((a + m) - a) (drop a pool) ≡ take n (drop b pool)
name_part pool {a} {b} {m} {n} e f =
    let g : (a + m) - a ≡ n = omega arith in
    rw (g, e)
