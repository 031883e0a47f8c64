-- The walk over a case's events, at places of a register.
use Prim.Native.Nat.{◌≤◌, ℕ, suc, ◌+◌, ◌-◌, ◌*◌, ◌/◌, ◌^◌, ◌<◌, max}
use mathlib.Core.Path.{◌≡◌, sym, ap, ap₂, ◌∙◌, subst}
use mathlib.Core.Bool.{Bool, true, false, cond, ◌&&◌}
use mathlib.Core.List.{List, [], ◌∷◌}
use native.Mathlib.Numerals.{add-one}
use native.Mathlib.Omega.{arith}
use lib.Dec.{eqb, ltb, leb}
use lib.ListN.{length, take, drop}
use lib.Pow.{shr-shr}
use borrow.Author.Tests.{ltb-true}
use Rattle.laws.proofs.Order.{Tri, below, equal, above, tri}
use Rattle.laws.proofs.Truth.{and_left, and_right}
use Rattle.laws.proofs.Every.{Every, every_both}
use Rattle.model.specs.Map.{Row, Map}
use Rattle.rows.specs.Packing.{num, field_at}
use Rattle.register.specs.Layout.{case_named, case_rest, event_rest, row_in}
use Rattle.register.specs.State.{events_from}
use Rattle.register.specs.Search.{key_at, probe_key}
use Rattle.register.specs.Stored.{events, split_of}
use Rattle.register.proofs.MixedKeys.{by_front}
use Rattle.register.proofs.Walks.{from_next, from_none, from_every}
use Rattle.home_care.specs.Row.{home_care, taken_in, event_number_in_wide, event_key_of, key_bits, day_bits, own_bits}
use Rattle.home_care.specs.Fits.{RowWidth, as_event}
use Rattle.home_care.specs.Allowed.{event_row_allowed_wide}
use Rattle.home_care.proofs.Laid.{laid_wide}
use Rattle.home_care.proofs.EventKeys.{cut_parts}
use Rattle.home_care.proofs.RowFields.{taken_at, taken_is}
use Rattle.soundness.specs.Walk.{run_of, case_at, ran}
use Rattle.std.specs.Prelude.{Option, None, Some}
use Rattle.soundness.proofs.EventFacts.{fits, late}
use Rattle.soundness.proofs.CaseRuns.{run_own, run_part}
use Rattle.soundness.proofs.CaseEvents.{Mine, follow, follow_is}

module _ (w : ℕ) where
  -- the row that the code cuts out
  pub row_number : (reg row : List ℕ) (i : ℕ) → row ≡ take w (drop (4 + w * i) reg) → num row ≡ row_in (home_care w) reg i
  unfolding row_in
  row_number reg row i e = ap num e

  -- the day of taking in that the code reads in a case's row
  pub taken_at_lem : RowWidth w → (reg row : List ℕ) (i r : ℕ) → num row ≡ row_in (home_care w) reg i → length row ≡ w → r ≡ field_at (8 * length row - (taken_at + day_bits)) day_bits (num row) →
      r ≡ taken_in (case_at w reg i)
  taken_at_lem wide reg row i r e l h =
      taken_is row (subst RowWidth (sym l) wide) r h ∙ ap₂ (λ (k n : ℕ). taken_in (n / 2 ^ case_rest (home_care k))) l e

  module _ (reg : List ℕ) (i j rows : ℕ) where
    abbrev event_row : ℕ → Row ℕ
    event_row k = split_of events (home_care w) (row_in (home_care w) reg k)

    -- the rows of the case at the front of those from k on
    abbrev run : ℕ → Map ℕ
    run k = run_of (case_named (home_care w)) (case_at w reg i) (events_from (home_care w) reg k (rows - k))

    abbrev answer : Option ℕ
    answer = ran w (case_at w reg i) j (events_from (home_care w) reg j (rows - j))

    -- the rows from k on give the same as the whole
    abbrev pub Onward : ℕ → ℕ → ℕ → ℕ → ℕ → Type 0
    Onward t b p m k = answer ≡ cond (follow w t b p m (run k)) (Some (k + length (run k))) None

    -- its key is that of the case that it names and the event's own
    abbrev Keyed : Row ℕ → Type 0
    Keyed r = Mine w (case_named (home_care w) r.key) r

    pub walk_start : RowWidth w → (t : ℕ) → t ≡ taken_in (case_at w reg i) → Onward t 0 0 0 j
    walk_start wide t e =
        let c = case_at w reg i in
        let m = events_from (home_care w) reg j (rows - j) in
        let g : Every (Mine w c) (run j) =
        every_both (run j) (λ r o s. s ∙ ap (λ (k : ℕ). k * 2 ^ own_bits + event_key_of (event_number_in_wide w r)) o) (run_own (case_named (home_care w)) c m)
        (run_part (case_named (home_care w)) Keyed c m (from_every event_row Keyed j (rows - j) (λ k x y. cut_parts w wide (row_in (home_care w) reg k)))) in
        ap (λ (z : Bool). cond z (Some (j + length (run j))) None) (sym (ap (λ (d : ℕ). follow w d 0 0 0 (run j)) e ∙ follow_is w c (taken_in c) (run j) g))

    -- no row is left
    pub walk_past : (t b p m k : ℕ) → Onward t b p m k → rows ≤ k → k ≤ rows → Some rows ≡ answer
    unfolding follow run_of
    walk_past t b p m k inv h l =
        let n : run k ≡ [] = ap (run_of (case_named (home_care w)) (case_at w reg i)) (from_none event_row k rows h) in
        let z : k + 0 ≡ rows = omega arith in
        sym (inv ∙ rw (n, z))

    module _ (wide : RowWidth w) (case : List ℕ) (k : ℕ) (stand : Bool) (own : num case ≡ row_in (home_care w) reg i) (told : stand ≡ ltb k rows && eqb (key_at w key_bits reg k) (probe_key w key_bits case)) where
      case_key : key_at w key_bits reg k ≡ case_named (home_care w) (event_row k).key
      unfolding key_at row_in
      case_key =
          let e : 8 * w - key_bits ≡ event_rest (home_care w) + own_bits = omega arith in
          let q = row_in (home_care w) reg k / 2 ^ event_rest (home_care w) in
          ap (λ (z : ℕ). row_in (home_care w) reg k / 2 ^ z) e ∙ sym (shr-shr (row_in (home_care w) reg k) (event_rest (home_care w)) own_bits)
          ∙ sym (by_front ((home_care w).spare q) own_bits q ((laid_wide w wide).spare_few q))

      probe : probe_key w key_bits case ≡ case_at w reg i
      unfolding probe_key
      probe = ap (λ (n : ℕ). n / 2 ^ case_rest (home_care w)) own

      test : stand ≡ ltb k rows && eqb (case_named (home_care w) (event_row k).key) (case_at w reg i)
      test = told ∙ ap₂ (λ (x y : ℕ). ltb k rows && eqb x y) case_key probe

      pub stands_within : stand ≡ true → k < rows
      stands_within s = ltb-true k rows (and_left (ltb k rows) _ (sym test ∙ s))

      run_more : stand ≡ true → run k ≡ event_row k ∷ run (k + 1)
      unfolding run_of
      run_more s =
          ap (run_of (case_named (home_care w)) (case_at w reg i)) (from_next event_row k rows (stands_within s))
          ∙ rw (and_right (ltb k rows) (eqb (case_named (home_care w) (event_row k).key) (case_at w reg i)) (sym test ∙ s))

      run_none : stand ≡ false → run k ≡ []
      unfolding run_of
      run_none s = go (tri k rows)
        where
          go : Tri k rows → run k ≡ []
          go (below l e _) =
              let o : eqb (case_named (home_care w) (event_row k).key) (case_at w reg i) ≡ false = rw e at (sym test ∙ s) in
              ap (run_of (case_named (home_care w)) (case_at w reg i)) (from_next event_row k rows l) ∙ rw o
          go (equal l _ _) = ap (run_of (case_named (home_care w)) (case_at w reg i)) (from_none event_row k rows (omega arith))
          go (above l _ _) = ap (run_of (case_named (home_care w)) (case_at w reg i)) (from_none event_row k rows (omega arith))

      module _ (t b p m : ℕ) (inv : Onward t b p m k) where
        pub walk_end : stand ≡ false → Some k ≡ answer
        unfolding follow
        walk_end s = let z : k + 0 ≡ k = omega arith in sym (inv ∙ rw (run_none s, z))

        module _ (row : List ℕ) (e : ℕ) (row_good fit : Bool) (s : stand ≡ true) (here : num row ≡ row_in (home_care w) reg k) (long : length row ≡ w)
            (read : e ≡ event_number_in_wide (length row) (as_event row)) (allowed : row_good ≡ event_row_allowed_wide (length row) (as_event row)) (f : fit ≡ leb b (event_key_of e) && fits t p m e) where
          step : answer ≡ cond ((row_good && fit) && follow w t (suc (event_key_of e)) e (max m (late e)) (run (k + 1))) (Some (k + 1 + length (run (k + 1)))) None
          unfolding follow
          step =
              let q : e ≡ event_number_in_wide w (event_row k) = read ∙ ap₂ (λ (v n : ℕ). event_number_in_wide v (split_of events (home_care v) n)) long here in
              let a : row_good ≡ event_row_allowed_wide w (event_row k) = allowed ∙ ap₂ (λ (v n : ℕ). event_row_allowed_wide v (split_of events (home_care v) n)) long here in
              let z : k + suc (length (run (k + 1))) ≡ k + 1 + length (run (k + 1)) = omega arith in
              inv ∙ rw (run_more s, ← a, ← q, ← f, z)

          pub walk_bad : row_good && fit ≡ false → None ≡ answer
          walk_bad g = sym (step ∙ rw g)

          pub walk_on : (b' p' m' : ℕ) → b' ≡ event_key_of e + 1 → p' ≡ e → m' ≡ max m (late e) → row_good && fit ≡ true → Onward t b' p' m' (k + 1)
          walk_on b' p' m' x y z g = step ∙ rw (g, x ∙ add-one (event_key_of e), y, z)
