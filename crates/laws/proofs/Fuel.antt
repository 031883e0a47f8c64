-- A loop whose steps leave less: how many turns it has does not matter once they exceed the length.
use Prim.Native.Nat.{ℕ, zero, suc, ◌<◌}
use mathlib.Core.Path.{◌≡◌, refl, ap}
use mathlib.Core.List.{List}
use native.Mathlib.Omega.{arith}
use lib.ListN.{length}
use Rattle.laws.specs.Loop.{Step, turn, turns, loop}
use Rattle.laws.specs.Loop.Step.{stop, next}

-- what a step goes on with is shorter than what it had
abbrev pub Shrinks : {R : Type 0} → (List ℕ → Step R) → Type 0
Shrinks {R} step = (l : List ℕ) (f : R → R) (m : List ℕ) → step l ≡ next f m → length m < length l

module _ {R : Type 0} (out : R) (step : List ℕ → Step R) (less : Shrinks step) where
  pub turns_same : (n k : ℕ) (l : List ℕ) → length l < n → length l < k → turns out step n l ≡ turns out step k l
  unfolding turns
  turns_same zero k l h g = absurd (omega arith)
  turns_same (suc n) zero l h g = absurd (omega arith)
  turns_same (suc n) (suc k) l h g = go (turns_same n k) (step l) refl
    where
      go : ((m : List ℕ) → length m < n → length m < k → turns out step n m ≡ turns out step k m) → (x : Step R) → step l ≡ x → turn (turns out step n) x ≡ turn (turns out step k) x
      go again (stop r) e = refl
      go again (next f m) e = let s : length m < length l = less l f m e in ap f (again m (omega arith) (omega arith))

  -- a loop is its first step, and the loop over what that leaves
  pub loop-turn : (l : List ℕ) → loop out step l ≡ turn (loop out step) (step l)
  unfolding loop turns
  loop-turn l = go (step l) refl
    where
      go : (x : Step R) → step l ≡ x → turn (turns out step (length l)) x ≡ turn (loop out step) x
      go (stop r) e = refl
      go (next f m) e = let s : length m < length l = less l f m e in ap f (turns_same (length l) (suc (length m)) m (omega arith) (omega arith))

  pub loop-next : {l : List ℕ} {f : R → R} {m : List ℕ} → step l ≡ next f m → loop out step l ≡ f (loop out step m)
  loop-next {l} e = rw (loop-turn l, e)

  pub loop-stop : {l : List ℕ} {r : R} → step l ≡ stop r → loop out step l ≡ r
  loop-stop {l} e = rw (loop-turn l, e)

-- what holds of a list where it holds of what a step leaves, holds of every list
module _ {R : Type 0} (step : List ℕ → Step R) (less : Shrinks step) (P : List ℕ → Type 0) where
  below : ((l : List ℕ) → ((f : R → R) (m : List ℕ) → step l ≡ next f m → P m) → P l) → (n : ℕ) (l : List ℕ) → length l < n → P l
  below h zero l a = absurd (omega arith)
  below h (suc n) l a = h l (λ f m e. let s : length m < length l = less l f m e in below h n m (omega arith))

  pub by_steps : ((l : List ℕ) → ((f : R → R) (m : List ℕ) → step l ≡ next f m → P m) → P l) → (l : List ℕ) → P l
  by_steps h l = below h (suc (length l)) l (omega arith)
