-- Reading a field out of the bytes that hold it.
use Prim.Native.Nat.{ℕ, ◌+◌, ◌-◌, ◌*◌, ◌/◌, ◌%◌, ◌^◌, ◌≤◌}
use mathlib.Core.Path.{◌≡◌, sym, ap, ◌∙◌}
use mathlib.Core.List.{List}
use native.Mathlib.Nat.{mod-lt}
use native.Mathlib.Omega.{arith}
use lib.ListN.{length, take}
use lib.Pow.{shr-shr, pow_pos}
use Rattle.rows.specs.Packing.{num, each, Fit, field_at, HeldAt}
use Rattle.rows.proofs.Packing.{window}
use Rattle.rows.proofs.Bytes.{prefix}

-- the bytes from `first` to `end` are r; of their bits x stand above the field and `below` below it
pub read_window : (row : List ℕ) (first end x w below r : ℕ) → Fit (each 8 row) → end ≤ length row
    → 8 * (end - first) ≡ x + w + below → num (take end row) ≡ num (take first row) * 2 ^ (8 * (end - first)) + r
    → r / 2 ^ below % 2 ^ w ≡ field_at (8 * (length row - end) + below) w (num row)
read_window row first end x w below r f h k e =
    sym (
    ap (λ (z : ℕ). z % 2 ^ w) (sym (shr-shr (num row) (8 * (length row - end)) below))
    ∙ ap (λ (z : ℕ). z / 2 ^ below % 2 ^ w) (prefix row end f ∙ e ∙ ap (λ (z : ℕ). num (take first row) * 2 ^ z + r) k)
    ∙ window (num (take first row)) r x w below
    )

-- what `get` computes: the field begins in byte at / 8, and read = at % 8 + w bits are read to its end
pub got : (row : List ℕ) (at w r : ℕ) → Fit (each 8 row) → at + w ≤ 8 * length row
    → num (take (at / 8 + (at % 8 + w + 7) / 8) row) ≡ num (take (at / 8) row) * 2 ^ (8 * (at / 8 + (at % 8 + w + 7) / 8 - at / 8)) + r
    → HeldAt row at w (r / 2 ^ (8 * ((at % 8 + w + 7) / 8) - (at % 8 + w)) % 2 ^ w)
got row at w r f h e =
    let first = at / 8 in
    let end = at / 8 + (at % 8 + w + 7) / 8 in
    let below = 8 * ((at % 8 + w + 7) / 8) - (at % 8 + w) in
    let k : 8 * (end - first) ≡ at % 8 + w + below = omega arith in
    let place : 8 * (length row - end) + below ≡ 8 * length row - (at + w) = omega arith in
    record {
      value = read_window row first end (at % 8) w below r f (omega arith) k e ∙ ap (λ (z : ℕ). field_at z w (num row)) place;
      small = mod-lt _ (pow_pos w);
    }
