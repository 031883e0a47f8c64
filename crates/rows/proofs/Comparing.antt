-- Comparing the first bits of two rows: whole bytes first, then what is left.
use Rattle.std.specs.Prelude.{◌≢◌}
use Rattle.std.specs.declared.cmp.Ordering.{Ordering}
use Rattle.std.specs.declared.cmp.Ordering.TheVariants.{Less, Equal, Greater}
use Rattle.std.specs.Ordering.{nat_cmp, ordering_then}
use Rattle.std.specs.Cmp.Lexicographic.{slice_cmp}
use Prim.Native.Nat.{ℕ, ◌+◌, ◌-◌, ◌*◌, ◌/◌, ◌%◌, ◌^◌, ◌≤◌}
use mathlib.Core.Path.{◌≡◌, refl, ap, ap₂, sym, ◌∙◌}
use mathlib.Core.List.{List, [], ◌∷◌}
use native.Mathlib.Nat.{mod-lt}
use native.Mathlib.Omega.{arith}
use lib.ListN.{length, take}
use lib.Pow.{pow_pos}
use lib.Seq.{length-take-le}
use Rattle.rows.specs.Packing.{bits, num, each, width, Fit, field_at, first_bits}
use Rattle.rows.specs.Ordering.{order_of}
use Rattle.rows.proofs.Bytes.{first_split, each_width, fit_take}
use Rattle.rows.proofs.Packing.{packs_lt, packs_cons}
use Rattle.rows.proofs.Ordering.{order_same, order_cmp, order_then}

-- the bits of the last byte that the first k bits reach into
abbrev pub rest : ℕ → List ℕ → ℕ
rest k a = field_at (8 * length a - (8 * (k / 8) + k % 8)) (k % 8) (num a)

-- the first k bits of a row, by whole bytes
split_at : (a : List ℕ) (k : ℕ) → Fit (each 8 a) → k ≤ 8 * length a → first_bits k a ≡ num (take (k / 8) a) * 2 ^ (k % 8) + rest k a
split_at a k f h =
    let e : k ≡ 8 * (k / 8) + k % 8 = omega arith in
    ap (λ (z : ℕ). first_bits z a) e ∙ first_split a (k / 8) (k % 8) f (omega arith)

pub by_bits : (a b : List ℕ) (k : ℕ) → Fit (each 8 a) → Fit (each 8 b) → length b ≡ length a → k ≤ 8 * length a
    → order_of (first_bits k a) (first_bits k b) ≡ ordering_then (order_of (num (take (k / 8) a)) (num (take (k / 8) b))) (order_of (rest k a) (rest k b))
by_bits a b k f g l h =
    let h' : k ≤ 8 * length b = omega arith in
    ap₂ order_of (split_at a k f h) (split_at b k g h')
    ∙ order_then _ _ _ _ (2 ^ (k % 8)) (mod-lt _ (pow_pos (k % 8))) (mod-lt _ (pow_pos (k % 8)))

-- bytes compared one by one are compared as numbers
pub bytes_order : (xs ys : List ℕ) → Fit (each 8 xs) → Fit (each 8 ys) → length ys ≡ length xs → slice_cmp nat_cmp xs ys ≡ order_of (num xs) (num ys)
bytes_order [] [] f g l = sym (order_same _ _ refl)
bytes_order [] (y ∷ ys) f g l = absurd (omega arith)
bytes_order (x ∷ xs) [] f g l = absurd (omega arith)
bytes_order (x ∷ xs) (y ∷ ys) f g l =
    let same : length ys ≡ length xs = omega arith in
    let wide : width (each 8 ys) ≡ width (each 8 xs) = each_width 8 ys ∙ ap (λ (n : ℕ). 8 * n) same ∙ sym (each_width 8 xs) in
    ap₂ ordering_then (order_cmp x y) (bytes_order xs ys f.1 g.1 same)
    ∙ sym (order_then x y (num xs) (num ys) (2 ^ width (each 8 xs)) (packs_lt (each 8 xs) f.1) (rw wide at (packs_lt (each 8 ys) g.1)))
    ∙ sym (ap₂ order_of (packs_cons (bits 8 x) (each 8 xs)) (rw wide at (packs_cons (bits 8 y) (each 8 ys))))

-- by what comparing the whole bytes said, and else by the bits behind them
pub by_bytes : (a b : List ℕ) (k : ℕ) → Fit (each 8 a) → Fit (each 8 b) → length b ≡ length a → k ≤ 8 * length a
    → (o p : Ordering) → o ≡ slice_cmp nat_cmp (take (k / 8) a) (take (k / 8) b) → o ≡ p
    → order_of (first_bits k a) (first_bits k b) ≡ ordering_then p (order_of (rest k a) (rest k b))
by_bytes a b k f g l h o p e q =
    let whole : length (take (k / 8) b) ≡ length (take (k / 8) a) = omega (arith, length-take-le (k / 8) b (omega arith), length-take-le (k / 8) a (omega arith)) in
    by_bits a b k f g l h
    ∙ ap (λ (z : Ordering). ordering_then z (order_of (rest k a) (rest k b)))
    (sym (bytes_order (take (k / 8) a) (take (k / 8) b) (fit_take 8 (k / 8) a f) (fit_take 8 (k / 8) b g) whole) ∙ sym e ∙ q)

-- an order that is not Equal decides
pub decided_then : (o p : Ordering) → (o ≢ Equal) → ordering_then o p ≡ o
decided_then Less p n = refl
decided_then Equal p n = absurd (n refl)
decided_then Greater p n = refl
