-- The last row that is in force on a day, as `latest` finds it: the rows of a case's Rivalutazioni come first, in the order of their dates.
use Prim.Native.Nat.{ℕ, ◌+◌, ◌-◌, ◌*◌, ◌/◌, ◌^◌, ◌≤◌, ◌<◌}
use mathlib.Core.Path.{◌≡◌, refl, sym, ap, ◌∙◌}
use mathlib.Core.Bool.{Bool, true, false, not, ◌&&◌}
use mathlib.Core.List.{List}
use native.Mathlib.Omega.{arith}
use lib.Dec.{eqb}
use lib.ListN.{length, take, drop}
use borrow.Author.Tests.{eqb-true, le-leb, lt-leb}
use Rattle.laws.proofs.Order.{Tri, below, equal, above, tri}
use Rattle.laws.proofs.Truth.{and_left, and-false}
use Rattle.laws.proofs.Every.{both_false}
use Rattle.codes.specs.CodesAndCharacters.{revaluation}
use Rattle.model.specs.Map.{Row}
use Rattle.rows.specs.Packing.{num}
use Rattle.register.specs.Layout.{event_rest, row_in}
use Rattle.register.specs.State.{split_by}
use Rattle.register.specs.Gap.{field_in}
use Rattle.register.specs.Search.{Placed}
use Rattle.home_care.specs.Row.{row_bytes, key_bits, kind_bits, day_bits, event_bits, home_care, siad, kind_of, date_of, conferma_of, anew, evaluates, event_number_in, evaluation_in}
use Rattle.home_care.specs.EventRows.{event_at, Climbs}
use Rattle.home_care.specs.Fits.{as_event}
use Rattle.home_care.proofs.EventKeys.{dated}
use Rattle.home_care.proofs.EventRows.{first_bits, bits_rise}
use Rattle.evaluation.specs.InForce.{in_force_by}
use Rattle.evaluation.specs.View.{event_row_at, LastKept}
use Rattle.std.specs.Prelude.{None, Some}

-- the row that is looked at, as an event's
pub row_is : (reg row : List ℕ) (i : ℕ) → row ≡ take row_bytes (drop (4 + row_bytes * i) reg) → length row ≡ row_bytes → as_event row ≡ event_row_at reg i
unfolding row_in
row_is reg row i e long =
    ap (λ (w : ℕ). split_by (home_care w).spare (event_rest (home_care w)) (num row)) long
    ∙ ap (λ (l : List ℕ). split_by siad.spare (event_rest siad) (num l)) e

-- whether an event's row keeps an evaluation
abbrev pub keeps_one : Row ℕ → Bool
keeps_one r = evaluates (event_number_in r) && not (eqb (evaluation_in r) 0)

and-true : (a b : Bool) → a && (b && true) ≡ a && b
and-true true true = refl
and-true true false = refl
and-true false b = refl

module _ (reg : List ℕ) (day : ℕ) where
  abbrev dates : ℕ → ℕ
  dates = field_in row_bytes key_bits (kind_bits + day_bits) reg

  -- the bits that are compared: kind and date
  dates_are : (k : ℕ) → dates k ≡ dated (event_at reg k)
  dates_are k = first_bits reg (kind_bits + day_bits) k (omega arith) ∙ front (event_at reg k)
    where
      front : (e : ℕ) → e / 2 ^ (event_bits - (kind_bits + day_bits)) ≡ dated e
      front e = omega arith

  -- a row whose bits are greater than the day is of another kind or of a later date
  too_late : (k : ℕ) → day + 1 ≤ dates k → in_force_by day (event_row_at reg k) ≡ false
  too_late k h =
      let e : ℕ = event_at reg k in
      both_false (evaluates e) _ (λ t.
      let q : kind_of e ≡ revaluation = eqb-true (kind_of e) revaluation (and_left (eqb (kind_of e) revaluation) (eqb (conferma_of e) anew) t) in
      rw (lt-leb (date_of e) day (omega (arith, dates_are k))) (and-false (not (eqb (evaluation_in (event_row_at reg k)) 0))))

  -- any other is in force where it keeps an evaluation
  in_time : (k : ℕ) → dates k < day + 1 → in_force_by day (event_row_at reg k) ≡ keeps_one (event_row_at reg k)
  in_time k h =
      let e : ℕ = event_at reg k in
      rw (le-leb (date_of e) day (omega (arith, dates_are k))) (and-true (evaluates e) (not (eqb (evaluation_in (event_row_at reg k)) 0)))

  -- ---- the way down from the first row that is too late

  module _ (lo hi : ℕ) where
    -- of the rows from i on none is in force, and none before it is too late
    pub record Passed (i : ℕ) : Type 0 where
      pub low : lo ≤ i
      pub high : i ≤ hi
      pub before : Climbs reg lo hi → (k : ℕ) → lo ≤ k → k < i → dates k < day + 1
      pub after : Climbs reg lo hi → (k : ℕ) → i ≤ k → k < hi → in_force_by day (event_row_at reg k) ≡ false

    pub started : {i : ℕ} → Placed dates (day + 1) lo hi i → Passed i
    started p =
        record {
          low = p.low;
          high = p.high;
          before = λ up. p.under (bits_rise reg lo hi up (kind_bits + day_bits) (omega arith));
          after = λ up k a b. too_late k (p.over (bits_rise reg lo hi up (kind_bits + day_bits) (omega arith)) k a b);
        }

    module _ (i : ℕ) (p : Passed i) (more : lo < i) (kept : Bool) (told : kept ≡ keeps_one (event_row_at reg (i - 1))) where
      last_is : Climbs reg lo hi → in_force_by day (event_row_at reg (i - 1)) ≡ kept
      last_is up = in_time (i - 1) (p.before up (i - 1) (omega arith) (omega arith)) ∙ sym told

      pub passed_on : kept ≡ false → Passed (i - 1)
      passed_on e =
          record {
            low = omega arith;
            high = let h = p.high in omega arith;
            before = λ up k a b. p.before up k a (omega arith);
            after = λ up k a b. go up k a b (tri (i - 1) k);
          }
        where
          go : Climbs reg lo hi → (k : ℕ) → i - 1 ≤ k → k < hi → Tri (i - 1) k → in_force_by day (event_row_at reg k) ≡ false
          go up k a b (below l _ _) = p.after up k (omega arith) b
          go up k a b (equal l _ _) = ap (λ (j : ℕ). in_force_by day (event_row_at reg j)) (sym l) ∙ last_is up ∙ e
          go up k a b (above l _ _) = absurd (omega arith)

      pub found_here : kept ≡ true → Climbs reg lo hi → LastKept reg day lo hi (Some (i - 1))
      found_here e up =
          let h = p.high in
          (omega arith, omega arith, last_is up ∙ e, λ j a b. p.after up j (omega arith) b)

    pub found_none : {i : ℕ} → Passed i → i ≤ lo → Climbs reg lo hi → LastKept reg day lo hi None
    found_none p l up j a b = p.after up j (omega arith) b
