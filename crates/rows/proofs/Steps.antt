-- Facts of numbers that the proofs of the bit writer and reader share; `size` is the bits of a machine word.
use Prim.Native.Nat.{ℕ, ◌+◌, ◌*◌, ◌/◌, ◌%◌, ◌^◌, ◌≤◌, ◌<◌}
use mathlib.Core.Path.{◌≡◌, sym, ap, ap₂, ◌∙◌}
use mathlib.Core.List.{List}
use native.Mathlib.Nat.{one-mul, lt_of_lt_of_le}
use native.Mathlib.Numerals.{add-one}
use native.Mathlib.Omega.{arith}
use lib.Arith.{digits_lt}
use lib.ListN.{length, take, set}
use lib.Pow.{pow-add, pow_mono, shl_exact, split}
use lib.Seq.{take-suc-set}
use Rattle.rows.specs.Packing.{num}
use Rattle.rows.proofs.Packing.{regroup}
use Rattle.rows.proofs.Bytes.{num_snoc}

-- `1 << k` is the power
pub one_shl : (size k : ℕ) → k < size → 1 * 2 ^ k % 2 ^ size ≡ 2 ^ k
one_shl size k h = shl_exact 1 k size (omega arith) (omega arith) ∙ one-mul (2 ^ k)

-- w bits more below h bits
pub more_lt : (a v h w : ℕ) → a < 2 ^ h → v < 2 ^ w → a * 2 ^ w + v < 2 ^ (h + w)
more_lt a v h w p q = rw (pow-add 2 h w) (digits_lt p q)

pub more : (n a v h w : ℕ) → n * 2 ^ (h + w) + (a * 2 ^ w + v) ≡ (n * 2 ^ h + a) * 2 ^ w + v
more n a v h w = ap (λ (z : ℕ). n * z + (a * 2 ^ w + v)) (pow-add 2 h w) ∙ sym (regroup n (2 ^ h) (2 ^ w) a v)

-- `(a << w) + v`, where a has h bits, v has w, and the word has room
pub shl_add : (size a v h w : ℕ) → a < 2 ^ h → h + w ≤ size → a * 2 ^ w % 2 ^ size + v ≡ a * 2 ^ w + v
shl_add size a v h w p r = ap (λ (z : ℕ). z + v) (shl_exact h w size p r)

pub shl_add_lt : (size a v h w : ℕ) → a < 2 ^ h → v < 2 ^ w → h + w ≤ size → a * 2 ^ w % 2 ^ size + v < 2 ^ (h + w)
shl_add_lt size a v h w p q r = rw (shl_add size a v h w p r) (more_lt a v h w p q)

pub within : (x k m : ℕ) → x < 2 ^ k → k ≤ m → x < 2 ^ m
within x k m p q = lt_of_lt_of_le p (pow_mono q)

-- a byte stored after the first bytes
pub stored : (out : List ℕ) (at b : ℕ) → at < length out → num (take (at + 1) (set out at b)) ≡ num (take at out) * 256 + b
stored out at b h = rw (add-one at, take-suc-set out at b h) (num_snoc (take at out) b)

-- the top 8 of k + 8 bits move into the bytes
pub flushed : (n acc k have : ℕ) → 8 + k ≡ have → (n * 256 + acc / 2 ^ k) * 2 ^ k + acc % 2 ^ k ≡ n * 2 ^ have + acc
flushed n acc k have e =
    regroup n 256 (2 ^ k) (acc / 2 ^ k) (acc % 2 ^ k)
    ∙ ap₂ (λ (x y : ℕ). n * x + y) (sym (pow-add 2 8 k) ∙ ap (λ (z : ℕ). 2 ^ z) e) (split acc k)

-- a field of w bits shifted in below y, of h bits, which the word x holds
pub joined : (size x y v h w : ℕ) → x ≡ y → y < 2 ^ h → v < 2 ^ w → h + w ≤ size → (x * 2 ^ w % 2 ^ size + v ≡ y * 2 ^ w + v) × (y * 2 ^ w + v < 2 ^ (h + w))
joined size x y v h w e p q r = (ap (λ (z : ℕ). z * 2 ^ w % 2 ^ size + v) e ∙ shl_add size y v h w p r, more_lt y v h w p q)
