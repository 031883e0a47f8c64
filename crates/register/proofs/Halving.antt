-- Binary search over numbers that do not fall.
use Prim.Native.Nat.{ℕ, ◌+◌, ◌≤◌, ◌<◌}
use mathlib.Core.Path.{◌≡◌, sym, ap, ap₂, ◌∙◌}
use mathlib.Core.Bool.{false, ◌&&◌, true≢false}
use mathlib.Core.Logic.{⊎_elim}
use native.Mathlib.Nat.{add-zero, eq-or-lt_of_le}
use native.Mathlib.Omega.{arith}
use lib.Dec.{ltb, eqb}
use borrow.Author.Tests.{lt-ltb, eq-eqb}
use Rattle.register.specs.Search.{Rises, Placed, Ranged}

-- what stands from lo up to a is below v, and what stands from e up to hi is not
pub record Bracket (f : ℕ → ℕ) (v lo hi a e : ℕ) : Type 0 where
  pub low : lo ≤ a
  pub mid : a ≤ e
  pub high : e ≤ hi
  pub under : Rises f lo hi → (k : ℕ) → lo ≤ k → k < a → f k < v
  pub over : Rises f lo hi → (k : ℕ) → e ≤ k → k < hi → v ≤ f k

pub start : (f : ℕ → ℕ) (v lo hi : ℕ) → lo ≤ hi → Bracket f v lo hi lo hi
start f v lo hi h =
    record { low = omega arith; mid = h; high = omega arith; under = λ u k p q. absurd (omega arith); over = λ u k p q. absurd (omega arith) }

module _ (f : ℕ → ℕ) (v lo hi a e : ℕ) (b : Bracket f v lo hi a e) (m : ℕ) (am : a ≤ m) (me : m < e) where
  pub up : f m < v → Bracket f v lo hi (m + 1) e
  up h =
      record {
        low = omega (arith, b.low);
        mid = omega arith;
        high = b.high;
        under = λ rises k p q.
            let l : k ≤ m = omega arith in
            ⊎_elim (λ w. let z : f k ≡ f m = ap f w in omega arith) (λ w. omega (arith, rises k m p w (omega (arith, b.high)))) (eq-or-lt_of_le l);
        over = b.over;
      }

  pub down : v ≤ f m → Bracket f v lo hi a m
  down h =
      record {
        low = b.low;
        mid = am;
        high = omega (arith, b.high);
        under = b.under;
        over = λ rises k p q.
            ⊎_elim (λ w. let z : f m ≡ f k = ap f w in omega arith) (λ w. omega (arith, rises m k (omega (arith, b.low)) w q)) (eq-or-lt_of_le p);
      }

pub met : (f : ℕ → ℕ) (v lo hi a e : ℕ) → Bracket f v lo hi a e → e ≤ a → Placed f v lo hi a
met f v lo hi a e b h =
    record {
      low = b.low;
      high = omega (arith, b.mid, b.high);
      under = b.under;
      over = λ rises k p q. b.over rises k (omega arith) q;
    }

-- at least v + 0 is at least v
pub at_key : (f : ℕ → ℕ) (v lo hi r : ℕ) → Placed f (v + 0) lo hi r → Placed f v lo hi r
at_key f v lo hi r p = rw (add-zero v) at p

-- the first place that is not below v, and from there on the first that is above it
pub between : (f : ℕ → ℕ) (v lo hi a e : ℕ) → Placed f (v + 0) lo hi a → Placed f (v + 1) a hi e → Ranged f v lo hi a e
between f v lo hi a e p q =
    record {
      low = p.low;
      mid = q.low;
      high = q.high;
      before = λ r k h g. omega (arith, p.under r k h g);
      inside = λ r k h g.
          omega (arith, q.under (λ x y l. r x y (omega (arith, p.low))) k h g, p.over r k h (omega (arith, q.high)));
      after = λ r k h g. omega (arith, q.over (λ x y l. r x y (omega (arith, p.low))) k h g);
    }

-- the first place that is not below v is not v's: none is
pub nowhere : (f : ℕ → ℕ) (v lo hi a : ℕ) → Placed f (v + 0) lo hi a → ltb a hi && eqb (f a) v ≡ false → Ranged f v lo hi a a
nowhere f v lo hi a p n =
    record {
      low = p.low;
      mid = omega arith;
      high = p.high;
      before = λ r k h g. omega (arith, p.under r k h g);
      inside = λ r k h g. absurd (omega arith);
      after = λ r k h g. let z = past r (omega arith) in ⊎_elim (λ w. let e : f a ≡ f k = ap f w in omega arith) (λ w. omega (arith, r a k p.low w g)) (eq-or-lt_of_le h);
    }
  where
    other : a < hi → f a ≡ v → ⊥
    other h e = true≢false (sym (ap₂ ◌&&◌ (lt-ltb a hi h) (eq-eqb (f a) v e)) ∙ n)

    past : Rises f lo hi → a < hi → v < f a
    past r h = let z = p.over r a (omega arith) h in ne_lt (f a) v (omega arith) (other h)
      where
        ne_lt : (x y : ℕ) → y ≤ x → (x ≡ y → ⊥) → y < x
        ne_lt x y l g = omega arith
