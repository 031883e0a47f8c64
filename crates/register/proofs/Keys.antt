-- What comparing a row's first bits with a probe's tells.
use Prim.Native.Nat.{ℕ, ◌+◌, ◌-◌, ◌*◌, ◌/◌, ◌^◌, ◌≤◌, ◌<◌}
use mathlib.Core.Path.{◌≡◌, sym, ap, ◌∙◌}
use mathlib.Core.Bool.{Bool, true, false}
use mathlib.Core.List.{List}
use native.Mathlib.Omega.{arith}
use lib.Dec.{ltb, eqb}
use lib.ListN.{length, take, drop, length-drop}
use lib.Seq.{length-take-le}
use borrow.Author.Tests.{ltb-true, lt-ltb, le-ltb, eq-eqb, ne_eqb}
use Rattle.laws.proofs.Truth.{and_left}
use Rattle.laws.proofs.Order.{Tri, tri}
use Rattle.laws.proofs.Order.Tri.{below, equal, above}
use Rattle.rows.specs.Packing.{num, first_bits}
use Rattle.rows.specs.Ordering.{order_of}
use Rattle.std.specs.declared.cmp.Ordering.{Ordering}
use Rattle.std.specs.declared.cmp.Ordering.TheVariants.{Less, Equal, Greater}
use Rattle.std.specs.Ordering.{is_eq}
use Rattle.rows.proofs.Ordering.{less_order, same_order, more_order, order_less, order_same, order_more}
use Rattle.register.specs.Search.{key_at, probe_key}
use Rattle.register.specs.TakenOutBytes.{stands_at}

-- the first bits of row i, as the code cuts it out
pub row_key : (w k i : ℕ) (reg : List ℕ) → 4 + w * (i + 1) ≤ length reg → first_bits k (take w (drop (4 + w * i) reg)) ≡ key_at w k reg i
unfolding key_at
row_key w k i reg h =
    let t : List ℕ = take w (drop (4 + w * i) reg) in
    let n : length t ≡ w = length-take-le w (drop (4 + w * i) reg) (rw length-drop (omega arith)) in
    ap (λ (j : ℕ). num t / 2 ^ (8 * j - k)) n

pub probe_key_lem : (w k : ℕ) (probe : List ℕ) → length probe ≡ w → first_bits k probe ≡ probe_key w k probe
unfolding probe_key
probe_key_lem w k probe e = ap (λ (j : ℕ). num probe / 2 ^ (8 * j - k)) e

-- below, with t 0, or not above, with t 1
abbrev pub told_below : Ordering → ℕ → Bool
told_below Less t = true
told_below Equal t = ltb 0 t
told_below Greater t = false

pub told_below_lem : (m n t : ℕ) → t ≤ 1 → (o s : Ordering) → o ≡ order_of m n → o ≡ s → told_below s t ≡ ltb m (n + t)
told_below_lem m n t h o Less e f = let l : m < n = less_order m n (sym e ∙ f) in sym (lt-ltb m (n + t) (omega arith))
told_below_lem m n t h o Equal e f = go (tri 0 t)
  where
    l : m ≡ n
    l = same_order m n (sym e ∙ f)

    go : Tri 0 t → ltb 0 t ≡ ltb m (n + t)
    go (below p a b) = a ∙ sym (lt-ltb m (n + t) (omega (arith, l)))
    go (equal p a b) = a ∙ sym (le-ltb m (n + t) (omega (arith, l)))
    go (above p a b) = absurd (omega arith)
told_below_lem m n t h o Greater e f = let l : n < m = more_order m n (sym e ∙ f) in sym (le-ltb m (n + t) (omega arith))

-- the orders are Equal where the numbers are
pub same_told : (m n : ℕ) → is_eq (order_of m n) ≡ eqb m n
same_told m n = go (tri m n)
  where
    go : Tri m n → is_eq (order_of m n) ≡ eqb m n
    go (below l _ _) = ap is_eq (order_less m n l) ∙ sym (ne_eqb m n (λ g. omega arith))
    go (equal e _ _) = ap is_eq (order_same m n e) ∙ sym (eq-eqb m n e)
    go (above l _ _) = ap is_eq (order_more m n l) ∙ sym (ne_eqb m n (λ g. omega arith))

pub stands_in : (w k hi : ℕ) (row a : List ℕ) (i : ℕ) → stands_at w k hi row a i ≡ true → i < hi
stands_in w k hi row a i e = ltb-true i hi (and_left (ltb i hi) (eqb (key_at w k a i) (probe_key w k row)) e)
