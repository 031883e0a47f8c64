-- What the demands exclude (RULES.md, 13 What must never happen), of any machine that takes the small flow's records.
use Prim.Native.Nat.{ℕ, ◌<◌}
use mathlib.Core.Path.{◌≡◌, refl, sym, ap, ◌∙◌}
use mathlib.Core.Bool.{true≢false}
use mathlib.Core.List.{List, [], ◌∷◌}
use mathlib.Core.Option.{Option, none, some}
use native.Mathlib.Omega.{arith}
use lib.ListN.{length, get_or}
use Rattle.laws.specs.Lists.{all, any}
use Rattle.model.proofs.Demands.{counted_once}
use Rattle.model.proofs.MachineLaws.{step_left, run_keeps}
use Rattle.model.proofs.Toy.{Said, say, toy, checks, files}
use Rattle.model.specs.Map.{find, any_in, all_in}
use Rattle.model.specs.Machine.{Machine, zeros, step, run, answers}
use Rattle.model.specs.Log.{accepted_by, run_all, taken_all}
use Rattle.model.specs.Transmission.{insert, vary}
use Rattle.model.specs.Flow.{State, empty}
use Rattle.model.specs.Demands.{Counted, Demand2, Demand3}

-- the case 7 is sent, and then varied
abbrev one : Said
one = say insert 7 1

abbrev two : Said
two = say vary 7 2

-- X6: "Counts are invented (K3): the answer list fixes them"
pub invented : (records accepted discarded : ℕ) → Counted (0 ∷ 15 ∷ []) records accepted discarded → (records ≡ 2) × (accepted ≡ 1) × (discarded ≡ 1)
unfolding zeros
invented r a d c = counted_once c (record { as_many = refl; together = refl; zeros_are = refl })

module _ (m : Machine (State ℕ ℕ) Said) (d2 : Demand2 checks m) where
  one_taken : m.judge empty one ≡ 0
  unfolding any any_in all_in find
  one_taken = (d2.accepted empty one).1 refl

  two_early : m.judge empty two ≡ 0 → ⊥
  unfolding any all any_in all_in find
  two_early e = true≢false ((d2.accepted empty two).0 e)

  -- X4: "Everything is discarded"
  pub discards_all : ((rs : List Said) → zeros (answers m empty rs) ≡ 0) → ⊥
  unfolding zeros answers
  discards_all h = let z : ◌≡◌ {A = ℕ} 1 0 = simp one_taken at (h (one ∷ [])) in omega arith

  -- X5: "All records are answered alike"
  pub all_alike : ((rs : List Said) (i j : ℕ) → i < length rs → j < length rs → get_or (answers m empty rs) i 0 ≡ get_or (answers m empty rs) j 0) → ⊥
  unfolding answers
  all_alike h =
      let e : m.judge empty two ≡ m.judge (step m empty two) one = h (two ∷ one ∷ []) 0 1 (omega arith) (omega arith) in
      two_early (e ∙ ap (λ (s : State ℕ ℕ). m.judge s one) (step_left m empty two two_early) ∙ one_taken)

  module _ {B : Type 0} (encode : State ℕ ℕ → B) (d3 : Demand3 toy m files encode) where
    one_stands : find 7 (run m empty (one ∷ [])).cases ≡ some 1
    unfolding run_all taken_all accepted_by run any find
    one_stands =
        (d3.case_stands ((one ∷ []) ∷ []) 7 1).1
        (record {
          by = one;
          is_last = record { before = []; after = []; list = simp one_taken; passes = refl; none_after = refl };
          keeps = refl;
          carries = refl;
        })

    -- X7: "Records are accepted and the register is left idle"
    pub idle : ((s : State ℕ ℕ) (rs : List Said) → run m s rs ≡ s) → ⊥
    unfolding find
    idle h =
        let e : ◌≡◌ {A = Option ℕ} none (some 1) = sym (ap (λ (s : State ℕ ℕ). find 7 s.cases) (h empty (one ∷ []))) ∙ one_stands in
        let z : ◌≡◌ {A = ℕ} 0 1 = cc in
        omega arith

    pub idle_act : ((s : State ℕ ℕ) (r : Said) → m.act s r ≡ s) → ⊥
    idle_act h = idle (λ s rs. run_keeps m (λ t. t ≡ s) (λ t r e a. h t r ∙ e) s rs refl)

    two_taken : m.judge (run m empty (one ∷ [])) two ≡ 0
    unfolding any all any_in all_in
    two_taken = (d2.accepted (run m empty (one ∷ [])) two).1 (simp one_stands)

    two_stands : find 7 (run m empty (one ∷ two ∷ [])).cases ≡ some 2
    unfolding run_all taken_all accepted_by run any find
    two_stands =
        let e : m.judge (step m empty one) two ≡ 0 = two_taken in
        (d3.case_stands ((one ∷ two ∷ []) ∷ []) 7 2).1
        (record {
          by = two;
          is_last = record { before = one ∷ []; after = []; list = rw (e, one_taken); passes = refl; none_after = refl };
          keeps = refl;
          carries = refl;
        })

    -- X8: "The first record is stored and the others only claimed"
    pub first_only : ((a b : Said) → run m empty (a ∷ b ∷ []) ≡ run m empty (a ∷ [])) → ⊥
    first_only h =
        let e : ◌≡◌ {A = Option ℕ} (some 2) (some 1) = sym two_stands ∙ ap (λ (s : State ℕ ℕ). find 7 s.cases) (h one two) ∙ one_stands in
        let z : ◌≡◌ {A = ℕ} 2 1 = cc in
        omega arith
