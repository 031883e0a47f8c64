-- What the test of a period tells.
use Prim.Native.Nat.{ℕ, ◌-◌, ◌*◌, ◌≤◌}
use mathlib.Core.Path.{◌≡◌}
use mathlib.Core.Bool.{true, ◌&&◌}
use lib.Dec.{leb}
use native.Mathlib.Omega.{arith}
use borrow.Author.Tests.{leb-true}
use Rattle.laws.proofs.Truth.{and_left, and_right}
use Rattle.days.specs.DayNumbers.{month_length, real_day}
use Rattle.days.specs.Quarters.{is_period}
use Rattle.days.proofs.Months.{is_real, month_between}

pub record Period (y q : ℕ) : Type 0 where
  pub from : 2009 ≤ y
  pub to : y ≤ 2099
  pub low : 1 ≤ q
  pub high : q ≤ 4

pub period : (y q : ℕ) → is_period y q ≡ true → Period y q
period y q e =
    let a = and_left (leb 2009 y && leb y 2099) (leb 1 q && leb q 4) e in
    let b = and_right (leb 2009 y && leb y 2099) (leb 1 q && leb q 4) e in
    record {
      from = leb-true 2009 y (and_left (leb 2009 y) (leb y 2099) a);
      to = leb-true y 2099 (and_right (leb 2009 y) (leb y 2099) a);
      low = leb-true 1 q (and_left (leb 1 q) (leb q 4) b);
      high = leb-true q 4 (and_right (leb 1 q) (leb q 4) b);
    }

-- a quarter's first and last day are real
module _ (y q : ℕ) (p : Period y q) where
  pub first_real : real_day y (3 * q - 2) 1 ≡ true
  first_real =
      let b = month_between y (3 * q - 2) (omega arith) (omega arith) in
      is_real y (3 * q - 2) 1
      (record { from = omega arith; to = p.to; low = omega arith; high = omega arith; first = omega arith; last = omega arith })

  pub last_real : real_day y (3 * q) (month_length y (3 * q)) ≡ true
  last_real =
      let b = month_between y (3 * q) (omega arith) (omega arith) in
      is_real y (3 * q) (month_length y (3 * q))
      (record { from = omega arith; to = p.to; low = omega arith; high = omega arith; first = omega arith; last = omega arith })
