-- Laws of the order of numbers.
use Prim.Native.Nat.{ℕ, ◌+◌, ◌*◌, ◌<◌}
use mathlib.Core.Path.{◌≡◌, sym, ap, ◌∙◌}
use native.Mathlib.Nat.{le_of_lt, lt_of_lt_of_le, le-add_right}
use native.Mathlib.Omega.{arith}
use lib.Arith.{digits_lt}
use borrow.Author.Tests.{lt-ltb, le-ltb}
use Rattle.laws.proofs.Order.{Tri, tri}
use Rattle.laws.proofs.Order.Tri.{below, equal, above}
use Rattle.std.specs.declared.cmp.Ordering.{Ordering}
use Rattle.std.specs.declared.cmp.Ordering.TheVariants.{Less, Equal, Greater}
use Rattle.std.specs.Ordering.{nat_cmp, ordering_then}
use Rattle.std.specs.Cmp.{nat_cmp_is}
use Rattle.rows.specs.Ordering.{order_of}

pub order_less : (m n : ℕ) → m < n → order_of m n ≡ Less
unfolding order_of
order_less m n h = rw (lt-ltb m n h)

pub order_more : (m n : ℕ) → n < m → order_of m n ≡ Greater
unfolding order_of
order_more m n h = rw (le-ltb m n (le_of_lt h), lt-ltb n m h)

pub order_same : (m n : ℕ) → m ≡ n → order_of m n ≡ Equal
unfolding order_of
order_same m n e = rw (le-ltb m n (omega arith), le-ltb n m (omega arith))

-- back from the order to the numbers
pub less_order : (m n : ℕ) → order_of m n ≡ Less → m < n
less_order m n e = go (tri m n)
  where
    go : Tri m n → m < n
    go (below l _ _) = l
    go (equal l _ _) = let p = order_same m n l in let z : ◌≡◌ {A = ℕ} 0 1 = cc in omega arith
    go (above l _ _) = let p = order_more m n l in let z : ◌≡◌ {A = ℕ} 0 1 = cc in omega arith

pub same_order : (m n : ℕ) → order_of m n ≡ Equal → m ≡ n
same_order m n e = go (tri m n)
  where
    go : Tri m n → m ≡ n
    go (below l _ _) = let p = order_less m n l in let z : ◌≡◌ {A = ℕ} 0 1 = cc in omega arith
    go (equal l _ _) = l
    go (above l _ _) = let p = order_more m n l in let z : ◌≡◌ {A = ℕ} 0 1 = cc in omega arith

pub more_order : (m n : ℕ) → order_of m n ≡ Greater → n < m
more_order m n e = go (tri m n)
  where
    go : Tri m n → n < m
    go (below l _ _) = let p = order_less m n l in let z : ◌≡◌ {A = ℕ} 0 1 = cc in omega arith
    go (equal l _ _) = let p = order_same m n l in let z : ◌≡◌ {A = ℕ} 0 1 = cc in omega arith
    go (above l _ _) = l

-- what `cmp` answers
pub order_cmp : (m n : ℕ) → nat_cmp m n ≡ order_of m n
order_cmp m n = go (tri m n)
  where
    go : Tri m n → nat_cmp m n ≡ order_of m n
    go (below l _ _) = sym (nat_cmp_is m n Less l) ∙ sym (order_less m n l)
    go (equal e _ _) = sym (nat_cmp_is m n Equal e) ∙ sym (order_same m n e)
    go (above l _ _) = sym (nat_cmp_is m n Greater l) ∙ sym (order_more m n l)

-- numbers of two digits: the high one decides, then the low one
pub order_then : (p q x y c : ℕ) → x < c → y < c → order_of (p * c + x) (q * c + y) ≡ ordering_then (order_of p q) (order_of x y)
order_then p q x y c h k = go (tri p q)
  where
    low : p ≡ q → Tri x y → order_of (p * c + x) (q * c + y) ≡ order_of x y
    low e (below l _ _) = order_less _ _ (rw e (omega arith)) ∙ sym (order_less x y l)
    low e (equal l _ _) = order_same _ _ (rw (e, l)) ∙ sym (order_same x y l)
    low e (above l _ _) = order_more _ _ (rw e (omega arith)) ∙ sym (order_more x y l)

    go : Tri p q → order_of (p * c + x) (q * c + y) ≡ ordering_then (order_of p q) (order_of x y)
    go (below l _ _) = order_less _ _ (lt_of_lt_of_le (digits_lt l h) (le-add_right (q * c) y)) ∙ sym (ap (λ (o : Ordering). ordering_then o (order_of x y)) (order_less p q l))
    go (equal e _ _) = low e (tri x y) ∙ sym (ap (λ (o : Ordering). ordering_then o (order_of x y)) (order_same p q e))
    go (above l _ _) = order_more _ _ (lt_of_lt_of_le (digits_lt l k) (le-add_right (p * c) x)) ∙ sym (ap (λ (o : Ordering). ordering_then o (order_of x y)) (order_more p q l))
