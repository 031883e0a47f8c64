-- What a function gives at places one after the other.
use Prim.Native.Nat.{ℕ, zero, suc, ◌+◌, ◌-◌, ◌≤◌, ◌<◌}
use mathlib.Core.Path.{◌≡◌, refl, ap, ◌∙◌}
use mathlib.Core.List.{List, ◌∷◌, ◌++◌}
use native.Mathlib.Omega.{arith}
use lib.ListN.{length, get_or}
use Rattle.register.specs.State.{from}

pub from-length : {A : Type 0} (f : ℕ → A) (i k : ℕ) → length (from f i k) ≡ k
unfolding from
from-length f i zero = refl
from-length f i (suc k) = ap suc (from-length f (suc i) k)

pub from_at : {A : Type 0} (f : ℕ → A) (i k j : ℕ) (d : A) → j < k → get_or (from f i k) j d ≡ f (i + j)
unfolding from
from_at f i zero j d h = absurd (omega arith)
from_at f i (suc k) zero d h = let e : i ≡ i + 0 = omega arith in ap f e
from_at f i (suc k) (suc j) d h = let e : suc i + j ≡ i + suc j = omega arith in from_at f (suc i) k j d (omega arith) ∙ ap f e

module _ {A : Type 0} (f : ℕ → A) where
  pub from_append : (i m n : ℕ) → from f i (m + n) ≡ from f i m ++ from f (i + m) n
  unfolding from
  from_append i zero n = let e : 0 + n ≡ n = omega arith in let d : i + 0 ≡ i = omega arith in rw (e, d)
  from_append i (suc m) n =
      let e : suc m + n ≡ suc (m + n) = omega arith in
      let d : i + suc m ≡ suc i + m = omega arith in
      rw (e, d) (ap (λ (l : List A). f i ∷ l) (from_append (suc i) m n))

  -- cut at a place
  pub from_cut : (lo i hi : ℕ) → lo ≤ i → i ≤ hi → from f lo (hi - lo) ≡ from f lo (i - lo) ++ from f i (hi - i)
  from_cut lo i hi h g =
      let e : hi - lo ≡ (i - lo) + (hi - i) = omega arith in
      let d : lo + (i - lo) ≡ i = omega arith in
      ap (from f lo) e ∙ from_append lo (i - lo) (hi - i) ∙ ap (λ (k : ℕ). from f lo (i - lo) ++ from f k (hi - i)) d
