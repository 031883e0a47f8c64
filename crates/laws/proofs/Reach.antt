-- A loop of the code over the steps of a loop of the definitions: what its invariant says, and how a turn and a return use it.
use Prim.Native.Nat.{ℕ, zero, suc, ◌<◌, ◌≤◌}
use mathlib.Core.Path.{◌≡◌, refl, ◌∙◌}
use mathlib.Core.List.{List}
use native.Mathlib.Omega.{arith}
use lib.ListN.{length}
use Rattle.laws.specs.Loop.{Step, turn, turns, loop}
use Rattle.laws.specs.Loop.Step.{stop, next}

-- `target` is what `k` makes of the loop's answer from l on
pub record Reach {R S : Type 0} (out : R) (step : List ℕ → Step R) (k : R → S) (target : S) (l : List ℕ) : Type 0 where
  pub fuel : ℕ
  pub enough : length l < fuel
  pub same : target ≡ k (turns out step fuel l)

-- one turn: the fuel that is left, and what the step makes of it
data Turned {R S : Type 0} (out : R) (step : List ℕ → Step R) (k : R → S) (target : S) (l : List ℕ) : Type 0 where
  turned : (f : ℕ) → length l ≤ f → target ≡ k (turn (turns out step f) (step l)) → Turned out step k target l

module _ {R S : Type 0} (out : R) (step : List ℕ → Step R) (k : R → S) where
  pub reach_start : (l : List ℕ) → Reach out step k (k (loop out step l)) l
  unfolding loop
  reach_start l = record { fuel = suc (length l); enough = omega arith; same = refl }

  once : (target : S) (l : List ℕ) (f : ℕ) → length l < f → target ≡ k (turns out step f l) → Turned out step k target l
  unfolding turns
  once target l zero h e = absurd (omega arith)
  once target l (suc f) h e = turned f (omega arith) e

module _ {R S : Type 0} {out : R} {step : List ℕ → Step R} {k : R → S} {target : S} {l : List ℕ} (r : Reach out step k target l) where
  pub reach_next : {f : R → R} {m : List ℕ} → step l ≡ next f m → length m < length l → Reach out step (λ a. k (f a)) target m
  reach_next {f} {m} e h = go (once out step k target l r.fuel r.enough r.same)
    where
      go : Turned out step k target l → Reach out step (λ a. k (f a)) target m
      go (turned n b same) = record { fuel = n; enough = omega arith; same = rw e at same }

  pub reach_stop : {a : R} → step l ≡ stop a → target ≡ k a
  reach_stop {a} e = go (once out step k target l r.fuel r.enough r.same)
    where
      go : Turned out step k target l → target ≡ k a
      go (turned n b same) = rw e at same

  -- another way to say what becomes of the answer
  pub reach_to : {j : R → S} → ((a : R) → k a ≡ j a) → Reach out step j target l
  reach_to e = record { fuel = r.fuel; enough = r.enough; same = r.same ∙ e (turns out step r.fuel l) }
