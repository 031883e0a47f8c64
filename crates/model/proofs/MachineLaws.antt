-- Laws of any machine over one file: files joined; answers one by one and counted; what a run keeps; sums of what came and went.
use Prim.Native.Nat.{ℕ, zero, suc, ◌+◌, ◌<◌}
use mathlib.Core.Path.{◌≡◌, refl, ap}
use mathlib.Core.Logic.{◌≢◌}
use mathlib.Core.Bool.{Bool, true, false, cond}
use mathlib.Core.List.{List, [], ◌∷◌, ◌++◌}
use native.Mathlib.Omega.{arith}
use lib.ListN.{length, get_or, take}
use lib.Dec.{eqb}
use borrow.Author.Tests.{eqb-true, ne_eqb}
use Rattle.laws.proofs.Every.{Every}
use Rattle.model.specs.Machine.{Machine, zeros, others, accepts, step, run, answers}
use Rattle.model.specs.Log.{sum_of, at_zeros, accepted_by, total, run_all}

pub zeros-others : (ns : List ℕ) → zeros ns + others ns ≡ length ns
unfolding zeros others
zeros-others [] = refl
zeros-others (n ∷ ns) = go (eqb n 0) (zeros-others ns)
  where
    go : (b : Bool) → zeros ns + others ns ≡ length ns → (cond b 1 0 + zeros ns) + (cond b 0 1 + others ns) ≡ length (n ∷ ns)
    go true ih = omega arith
    go false ih = omega arith

module _ {S R : Type 0} (m : Machine S R) where
  -- ---- files joined
  pub run_append : (s : S) (a b : List R) → run m s (a ++ b) ≡ run m (run m s a) b
  unfolding run
  run_append s [] b = refl
  run_append s (r ∷ a) b = run_append (step m s r) a b

  pub answers_append : (s : S) (a b : List R) → answers m s (a ++ b) ≡ answers m s a ++ answers m (run m s a) b
  unfolding run answers
  answers_append s [] b = refl
  answers_append s (r ∷ a) b = ap (λ (l : List ℕ). m.judge s r ∷ l) (answers_append (step m s r) a b)

  pub taken_append : (s : S) (a b : List R) → accepted_by m s (a ++ b) ≡ accepted_by m s a ++ accepted_by m (run m s a) b
  unfolding run accepted_by
  taken_append s [] b = refl
  taken_append s (r ∷ a) b = go (accepts m s r) (taken_append (step m s r) a b)
    where
      go : (c : Bool) →
          accepted_by m (step m s r) (a ++ b) ≡ accepted_by m (step m s r) a ++ accepted_by m (run m (step m s r) a) b →
          cond c (r ∷ accepted_by m (step m s r) (a ++ b)) (accepted_by m (step m s r) (a ++ b)) ≡
          cond c (r ∷ accepted_by m (step m s r) a) (accepted_by m (step m s r) a) ++ accepted_by m (run m (step m s r) a) b
      go true ih = ap (λ (l : List R). r ∷ l) ih
      go false ih = ih

  -- ---- the answers
  pub answers_each : (s : S) (rs : List R) (d : R) (i : ℕ) → i < length rs → get_or (answers m s rs) i 0 ≡ m.judge (run m s (take i rs)) (get_or rs i d)
  unfolding run answers
  answers_each s [] d i l = absurd (omega arith)
  answers_each s (r ∷ rs) d zero l = refl
  answers_each s (r ∷ rs) d (suc i) l = answers_each (step m s r) rs d i (omega arith)

  pub answers-length : (s : S) (rs : List R) → length (answers m s rs) ≡ length rs
  unfolding answers
  answers-length s [] = refl
  answers-length s (r ∷ rs) = ap suc (answers-length (step m s r) rs)

  pub taken_zeros : (s : S) (rs : List R) → length (accepted_by m s rs) ≡ zeros (answers m s rs)
  unfolding answers accepted_by zeros
  taken_zeros s [] = refl
  taken_zeros s (r ∷ rs) = go (accepts m s r) (taken_zeros (step m s r) rs)
    where
      go : (b : Bool) → length (accepted_by m (step m s r) rs) ≡ zeros (answers m (step m s r) rs) →
          length (cond b (r ∷ accepted_by m (step m s r) rs) (accepted_by m (step m s r) rs)) ≡
          cond b 1 0 + zeros (answers m (step m s r) rs)
      go true ih = omega arith
      go false ih = omega arith

  -- the accepted ones are those whose answers are 0, whatever stands behind the answers in their list
  pub taken_answers : (s : S) (rs : List R) (t : List ℕ) → accepted_by m s rs ≡ at_zeros (answers m s rs ++ t) rs
  unfolding accepted_by answers at_zeros
  taken_answers s [] t = refl
  taken_answers s (r ∷ rs) t = ap (λ (l : List R). cond (accepts m s r) (r ∷ l) l) (taken_answers (step m s r) rs t)

  -- accepted + discarded = records
  pub records : (s : S) (rs : List R) → length (accepted_by m s rs) + others (answers m s rs) ≡ length rs
  records s rs = omega (arith, taken_zeros s rs, zeros-others (answers m s rs), answers-length s rs)

  -- ---- one step
  pub step_taken : (s : S) (r : R) → m.judge s r ≡ 0 → step m s r ≡ m.act s r
  step_taken s r e = simp e

  pub step_left : (s : S) (r : R) → m.judge s r ≢ 0 → step m s r ≡ s
  step_left s r n = simp (ne_eqb (m.judge s r) 0 n)

  -- ---- what every accepted record keeps, every run keeps
  module _ (Inv : S → Type 0) (keeps : (s : S) (r : R) → Inv s → m.judge s r ≡ 0 → Inv (m.act s r)) where
    pub step_keeps : (s : S) (r : R) → Inv s → Inv (step m s r)
    step_keeps s r h = go (accepts m s r) refl
      where
        go : (b : Bool) → accepts m s r ≡ b → Inv (cond b (m.act s r) s)
        go true e = keeps s r h (eqb-true (m.judge s r) 0 e)
        go false e = h

    pub run_keeps : (s : S) (rs : List R) → Inv s → Inv (run m s rs)
    unfolding run
    run_keeps s [] h = h
    run_keeps s (r ∷ rs) h = run_keeps (step m s r) rs (step_keeps s r h)

    pub run_all_keeps : {X : Type 0} (entries : S → X → List R) (s : S) (xs : List X) → Inv s → Inv (run_all m entries s xs)
    unfolding run_all
    run_all_keeps entries s [] h = h
    run_all_keeps entries s (x ∷ xs) h = run_all_keeps entries (run m s (entries s x)) xs (run_keeps s (entries s x) h)

    -- sizes: what came in and what went out
    module _ (size : S → ℕ) (inn out : S → R → ℕ)
        (law : (s : S) (r : R) → Inv s → m.judge s r ≡ 0 → size (m.act s r) + out s r ≡ size s + inn s r) where
      pub conserved : (s : S) (rs : List R) → Inv s → size (run m s rs) + total m out s rs ≡ size s + total m inn s rs
      unfolding run total
      conserved s [] h = refl
      conserved s (r ∷ rs) h =
          go (accepts m s r) refl (conserved (step m s r) rs (step_keeps s r h))
        where
          go : (b : Bool) → accepts m s r ≡ b →
              size (run m (step m s r) rs) + total m out (step m s r) rs ≡
              size (step m s r) + total m inn (step m s r) rs →
              size (run m (step m s r) rs) + (cond b (out s r) 0 + total m out (step m s r) rs) ≡
              size s + (cond b (inn s r) 0 + total m inn (step m s r) rs)
          go true e ih =
              let l : size (m.act s r) + out s r ≡ size s + inn s r = law s r h (eqb-true (m.judge s r) 0 e) in
              let z : size (step m s r) ≡ size (m.act s r) = simp e in
              omega arith
          go false e ih =
              let z : size (step m s r) ≡ size s = simp e in
              omega arith

  -- a sum that does not look at the state is one over the accepted records
  pub total_taken : (g : R → ℕ) (s : S) (rs : List R) → total m (λ _ r. g r) s rs ≡ sum_of g (accepted_by m s rs)
  unfolding total accepted_by sum_of
  total_taken g s [] = refl
  total_taken g s (r ∷ rs) = go (accepts m s r) (total_taken g (step m s r) rs)
    where
      go : (b : Bool) → total m (λ _ r. g r) (step m s r) rs ≡ sum_of g (accepted_by m (step m s r) rs) →
          cond b (g r) 0 + total m (λ _ r. g r) (step m s r) rs ≡
          sum_of g (cond b (r ∷ accepted_by m (step m s r) rs) (accepted_by m (step m s r) rs))
      go true ih = omega arith
      go false ih = omega arith

  -- sums of numbers that agree
  pub total_same : (g h : S → R → ℕ) (s : S) (rs : List R) → Every (λ r. (s : S) → g s r ≡ h s r) rs → total m g s rs ≡ total m h s rs
  unfolding total
  total_same g h s [] e = refl
  total_same g h s (r ∷ rs) e = simp (e.0 s, total_same g h (step m s r) rs e.1)

  -- what holds of every record holds of the accepted ones
  pub taken_every : (P : R → Type 0) (s : S) (rs : List R) → Every P rs → Every P (accepted_by m s rs)
  unfolding accepted_by
  taken_every P s [] h = tt
  taken_every P s (r ∷ rs) h = go (accepts m s r) (taken_every P (step m s r) rs h.1)
    where
      go : (b : Bool) → Every P (accepted_by m (step m s r) rs) → Every P (cond b (r ∷ accepted_by m (step m s r) rs) (accepted_by m (step m s r) rs))
      go true ih = (h.0, ih)
      go false ih = ih

-- ---- an invariant that only records with a property keep
module _ {S R : Type 0} (m : Machine S R) (Inv : S → Type 0) (Ok : R → Type 0)
    (keeps : (s : S) (r : R) → Inv s → Ok r → m.judge s r ≡ 0 → Inv (m.act s r)) where
  pub run_keeps_ok : (s : S) (rs : List R) → Inv s → Every Ok rs → Inv (run m s rs)
  unfolding run
  run_keeps_ok s [] h o = h
  run_keeps_ok s (r ∷ rs) h o = run_keeps_ok (step m s r) rs (go (accepts m s r) refl) o.1
    where
      go : (b : Bool) → accepts m s r ≡ b → Inv (cond b (m.act s r) s)
      go true e = keeps s r h o.0 (eqb-true (m.judge s r) 0 e)
      go false e = h

  pub run_all_keeps_ok : {X : Type 0} (entries : S → X → List R) → ((s : S) (x : X) → Every Ok (entries s x)) →
      (s : S) (xs : List X) → Inv s → Inv (run_all m entries s xs)
  unfolding run_all
  run_all_keeps_ok entries o s [] h = h
  run_all_keeps_ok entries o s (x ∷ xs) h =
      run_all_keeps_ok entries o (run m s (entries s x)) xs (run_keeps_ok s (entries s x) h (o s x))
