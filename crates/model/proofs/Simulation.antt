-- Two machines that go alike, and bytes that go as a state does.
use mathlib.Core.Path.{◌≡◌, refl}
use mathlib.Core.Bool.{Bool, true, false, cond}
use mathlib.Core.List.{List, [], ◌∷◌}
use borrow.Author.Tests.{eqb-true}
use Rattle.model.proofs.MachineLaws.{step_keeps, run_keeps}
use Rattle.model.specs.Machine.{Machine, accepts, step, run, answers}
use Rattle.model.specs.Log.{run_all, calls}

-- ---- two machines that judge alike and act alike along a map
module _ {S T R : Type 0} (m : Machine S R) (n : Machine T R) (to : S → T) (Inv : S → Type 0)
    (keeps : (s : S) (r : R) → Inv s → m.judge s r ≡ 0 → Inv (m.act s r))
    (judges : (s : S) (r : R) → Inv s → m.judge s r ≡ n.judge (to s) r)
    (acts : (s : S) (r : R) → Inv s → m.judge s r ≡ 0 → to (m.act s r) ≡ n.act (to s) r) where
  step-to : (s : S) (r : R) → Inv s → to (step m s r) ≡ step n (to s) r
  step-to s r h = go (accepts m s r) refl
    where
      go : (b : Bool) → accepts m s r ≡ b → to (cond b (m.act s r) s) ≡ step n (to s) r
      go true e = simp (← judges s r h, e) (acts s r h (eqb-true (m.judge s r) 0 e))
      go false e = simp (← judges s r h, e)

  pub answers-to : (s : S) (rs : List R) → Inv s → answers m s rs ≡ answers n (to s) rs
  unfolding answers
  answers-to s [] h = refl
  answers-to s (r ∷ rs) h =
      cc (judges s r h, answers-to (step m s r) rs (step_keeps m Inv keeps s r h), step-to s r h)

  pub run-to : (s : S) (rs : List R) → Inv s → to (run m s rs) ≡ run n (to s) rs
  unfolding run
  run-to s [] h = refl
  run-to s (r ∷ rs) h = simp (run-to (step m s r) rs (step_keeps m Inv keeps s r h), step-to s r h)

-- ---- bytes: a call that does to a state's bytes what the machine does to the state
module _ {S R X B : Type 0} (m : Machine S R) (entries : S → X → List R) (call : B → X → B) (encode : S → B) (Inv : S → Type 0)
    (keeps : (s : S) (r : R) → Inv s → m.judge s r ≡ 0 → Inv (m.act s r))
    (right : (s : S) (x : X) → Inv s → call (encode s) x ≡ encode (run m s (entries s x))) where
  pub calls-encode : (s : S) (xs : List X) → Inv s → calls call (encode s) xs ≡ encode (run_all m entries s xs)
  unfolding calls run_all
  calls-encode s [] h = refl
  calls-encode s (x ∷ xs) h =
      rw (right s x h) (calls-encode (run m s (entries s x)) xs (run_keeps m Inv keeps s (entries s x) h))
