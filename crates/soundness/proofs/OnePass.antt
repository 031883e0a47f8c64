-- The pass over the rows, at places of a register: a case and then its events decide what stands to be valid.
use Prim.Native.Nat.{ℕ, ◌+◌, ◌-◌, ◌*◌, ◌/◌, ◌^◌, ◌≤◌, ◌<◌}
use mathlib.Core.Path.{◌≡◌, refl, sym, ap, ap₂, ◌∙◌}
use mathlib.Core.Bool.{Bool, true, false, ◌&&◌, ◌||◌, true≢false}
use mathlib.Core.List.{List, []}
use native.Mathlib.Nat.{add-zero}
use native.Mathlib.Omega.{arith}
use lib.Dec.{eqb, ltb}
use lib.ListN.{length, take, drop, length-append}
use lib.Seq.{drop_at}
use borrow.Author.Tests.{le-leb, eq-eqb, ne_eqb}
use Rattle.laws.specs.Lists.{all}
use Rattle.laws.proofs.Order.{Tri, below, equal, above, tri}
use Rattle.laws.proofs.Truth.{and_left, and_right, and-false}
use Rattle.model.specs.Map.{Row, Map}
use Rattle.model.specs.Flow.{State}
use Rattle.rows.specs.Packing.{num}
use Rattle.register.specs.Layout.{case_named, case_rest, row_in}
use Rattle.register.specs.RoomAndEmptying.{room}
use Rattle.register.specs.State.{from, split, cases_from, events_from}
use Rattle.register.specs.Stored.{events, split_of}
use Rattle.register.specs.Search.{key_at, probe_key}
use Rattle.register.specs.Sound.{ascending, valid}
use Rattle.register.proofs.From.{from-length, from_cut}
use Rattle.register.proofs.Walks.{from_next, from_none, row_good, row_bad, rows_done, climb_on, climb_not, climb_done, key_here, key_there}
use Rattle.register.proofs.Ascending.{asc_told}
use Rattle.home_care.specs.Row.{home_care, key_bits}
use Rattle.home_care.specs.Fits.{as_case}
use Rattle.home_care.specs.Allowed.{case_row_allowed_wide}
use Rattle.soundness.specs.Sound.{home_care_rules}
use Rattle.soundness.specs.Walk.{run_of, good_run, case_at, ran}
use Rattle.std.specs.Prelude.{Option, None, Some}
use Rattle.soundness.proofs.KeyTexts.{picked, refused}
use Rattle.soundness.proofs.CaseRuns.{rest_of, run_rest, grouped, grouped_is}

-- ---- the answers of a run

and_under : (c x y : Bool) → (c ≡ true → x ≡ y) → c && x ≡ c && y
and_under true x y h = h refl
and_under false x y h = refl

shuffle : (a b c d e : Bool) → (a && b) && ((c && d) && e) ≡ a && (c && (b && (d && e)))
shuffle true b true d e = refl
shuffle true b false d e = and-false b
shuffle false b c d e = refl

module _ (w : ℕ) where
  -- ---- one case

  -- row i is allowed as a case, and above the case before it
  abbrev pub case_fits : List ℕ → ℕ → Bool
  case_fits reg i = case_row_allowed_wide w (split (case_rest (home_care w)) (row_in (home_care w) reg i)) && (eqb i 0 || ltb (case_at w reg (i - 1)) (case_at w reg i))

  module _ (reg row : List ℕ) (i : ℕ) (good : Bool) (own : num row ≡ row_in (home_care w) reg i) (long : length row ≡ w) (told : good ≡ case_row_allowed_wide (length row) (as_case row)) where
    allowed : good ≡ case_row_allowed_wide w (split (case_rest (home_care w)) (row_in (home_care w) reg i))
    allowed = told ∙ ap₂ (λ (v n : ℕ). case_row_allowed_wide v (split (case_rest (home_care v)) n)) long own

    pub case_out : good ≡ false → false ≡ case_fits reg i
    case_out e = rw (sym allowed ∙ e)

    pub case_first : good ≡ true → i ≡ 0 → true ≡ case_fits reg i
    case_first e z = rw (sym allowed ∙ e, eq-eqb i 0 z)

    pub case_next : (up : Bool) → good ≡ true → (i ≡ 0 → ⊥) → up ≡ ltb (key_at w key_bits reg (i - 1)) (probe_key w key_bits row + 0) → up ≡ case_fits reg i
    unfolding key_at probe_key row_in
    case_next up e z h =
        let n : num row / 2 ^ case_rest (home_care w) + 0 ≡ case_at w reg i = ap (λ (k : ℕ). k / 2 ^ case_rest (home_care w) + 0) own ∙ add-zero (case_at w reg i) in
        h ∙ rw (sym allowed ∙ e, ne_eqb i 0 z, n)

  module _ (reg : List ℕ) (cases rows : ℕ) where
    abbrev case_row : ℕ → Row ℕ
    case_row k = split (case_rest (home_care w)) (row_in (home_care w) reg k)

    abbrev event_row : ℕ → Row ℕ
    event_row k = split_of events (home_care w) (row_in (home_care w) reg k)

    abbrev cs : Map ℕ
    cs = cases_from (home_care w) reg 0 cases

    -- the events from row j on
    abbrev es : ℕ → Map ℕ
    es j = events_from (home_care w) reg j (rows - j)

    abbrev walked : Map ℕ → Map ℕ → Bool
    walked l m = grouped (case_named (home_care w)) (home_care_rules w) l m

    abbrev pub state : State ℕ ℕ
    state = record { cases = cs; events = es cases }

    -- the cases from i on and the events from row j on give the same as the whole; the key before case i is still to be compared
    pub record Rest (i j : ℕ) : Type 0 where
      pub allow : all (case_row_allowed_wide w) cs ≡ all (case_row_allowed_wide w) (cases_from (home_care w) reg i (cases - i))
      pub up : ascending cs ≡ ascending (cases_from (home_care w) reg (i - 1) (cases - (i - 1)))
      pub runs : walked cs (es cases) ≡ walked (cases_from (home_care w) reg i (cases - i)) (es j)

    pub rest_start : Rest 0 cases
    rest_start =
        let e : cases ≡ cases - 0 = omega arith in
        record {
          allow = ap (λ (k : ℕ). all (case_row_allowed_wide w) (cases_from (home_care w) reg 0 k)) e;
          up = ap (λ (k : ℕ). ascending (cases_from (home_care w) reg 0 k)) e;
          runs = ap (λ (k : ℕ). walked (cases_from (home_care w) reg 0 k) (es cases)) e;
        }

    module _ (n : ℕ) (room-left : rows ≤ room (home_care w) n) (order : cases ≤ rows) where
      -- what the pass decides
      valid_is : valid (home_care w) (home_care_rules w) n state ≡ (all (case_row_allowed_wide w) cs && (ascending cs && walked cs (es cases)))
      valid_is =
          let f : cases + (rows - cases) ≤ room (home_care w) n = omega arith in
          rw (from-length case_row 0 cases, from-length event_row cases (rows - cases), le-leb (cases + (rows - cases)) (room (home_care w) n) f)
          (shuffle (all (case_row_allowed_wide w) cs) _ (ascending cs) _ _
          ∙ ap (λ (b : Bool). all (case_row_allowed_wide w) cs && b) (and_under (ascending cs) _ _ (λ u. sym (grouped_is (case_named (home_care w)) (λ j k h. omega arith) (home_care_rules w) 0 cs (es cases) (asc_told cs u)))))

      module _ (i j : ℕ) (rest : Rest i j) where
        module _ (h : i < cases) where
          -- the test of the keys as the code makes it
          above_last : (i ≡ 0 → ⊥) → ltb (case_at w reg (i - 1)) (case_at w reg i) ≡ ltb (key_at w key_bits reg (i - 1)) (probe_key w key_bits (take (4 + w * (i - 1 + 1) + w - (4 + w * (i - 1 + 1))) (drop (4 + w * (i - 1 + 1)) reg)) + 0)
          above_last z =
              let e : i ≡ i - 1 + 1 = omega (arith, z) in
              let d : case_at w reg (i - 1 + 1) ≡ case_at w reg (i - 1 + 1) + 0 = omega arith in
              ap (λ (k : ℕ). ltb (case_at w reg (i - 1)) (case_at w reg k)) e
              ∙ ap₂ ltb (sym (key_here (home_care w) w key_bits reg refl (i - 1))) (d ∙ ap (λ (k : ℕ). k + 0) (sym (key_there (home_care w) w key_bits reg refl (i - 1 + 1) (4 + w * (i - 1 + 1)) refl)))

          pub case_not : (good : Bool) → good ≡ case_fits reg i → good ≡ false → false ≡ valid (home_care w) (home_care_rules w) n state
          case_not good told e = go (case_row_allowed_wide w (case_row i)) refl (tri i 0)
            where
              go : (b : Bool) → case_row_allowed_wide w (case_row i) ≡ b → Tri i 0 → false ≡ valid (home_care w) (home_care_rules w) n state
              go false a t = sym (valid_is ∙ rw (sym (row_bad case_row (case_row_allowed_wide w) _ _ i cases rest.allow h refl a)))
              go true a (below l _ _) = absurd (omega arith)
              go true a (equal l _ f) = let z : true ≡ false = sym (rw (a, f) at told) ∙ e in absurd (true≢false z)
              go true a (above l _ f) =
                  let u : ltb (case_at w reg (i - 1)) (case_at w reg i) ≡ false = sym (rw (a, f) at told) ∙ e in
                  let d = climb_not (home_care w) w key_bits reg refl _ _ (i - 1) cases rest.up (omega arith) (above_last (λ z. omega arith)) u in
                  sym (valid_is ∙ rw (sym d) (and-false (all (case_row_allowed_wide w) cs)))

          -- the case at i passes
          allow_on : case_fits reg i ≡ true → all (case_row_allowed_wide w) cs ≡ all (case_row_allowed_wide w) (cases_from (home_care w) reg (i + 1) (cases - (i + 1)))
          allow_on e = row_good case_row (case_row_allowed_wide w) _ _ i cases rest.allow h refl (and_left (case_row_allowed_wide w (case_row i)) _ e)

          up_on : case_fits reg i ≡ true → ascending cs ≡ ascending (cases_from (home_care w) reg (i + 1 - 1) (cases - (i + 1 - 1)))
          up_on e = go (tri i 0)
            where
              go : Tri i 0 → ascending cs ≡ ascending (cases_from (home_care w) reg (i + 1 - 1) (cases - (i + 1 - 1)))
              go (below l _ _) = absurd (omega arith)
              go (equal l _ f) = let k : i - 1 ≡ i + 1 - 1 = omega arith in rest.up ∙ ap (λ (k : ℕ). ascending (cases_from (home_care w) reg k (cases - k))) k
              go (above l _ f) =
                  let k : i - 1 + 1 ≡ i + 1 - 1 = omega arith in
                  let u : ltb (case_at w reg (i - 1)) (case_at w reg i) ≡ true = rw f at (and_right (case_row_allowed_wide w (case_row i)) _ e) in
                  climb_on (home_care w) w key_bits reg refl _ _ (i - 1) cases rest.up (omega arith) (above_last (λ z. omega arith)) u
                  ∙ ap (λ (k : ℕ). ascending (cases_from (home_care w) reg k (cases - k))) k

          -- and its events
          abbrev run : Map ℕ
          run = run_of (case_named (home_care w)) (case_at w reg i) (es j)

          one_case_lem : walked cs (es cases) ≡ (good_run (home_care_rules w) (case_at w reg i) run && walked (cases_from (home_care w) reg (i + 1) (cases - (i + 1))) (rest_of (case_named (home_care w)) (case_at w reg i) (es j)))
          unfolding grouped
          one_case_lem = rest.runs ∙ ap (λ (l : Map ℕ). walked l (es j)) (from_next case_row i cases h)

          pub run_bad : (r : Option ℕ) → r ≡ ran w (case_at w reg i) j (es j) → r ≡ None → false ≡ valid (home_care w) (home_care_rules w) n state
          run_bad r told e =
              let g = refused (good_run (home_care_rules w) (case_at w reg i) run) (j + length run) (sym told ∙ e) in
              sym (valid_is ∙ rw (one_case_lem, g, and-false (ascending cs)) (and-false (all (case_row_allowed_wide w) cs)))

          run_short : j ≤ rows → length run ≤ rows - j
          run_short l =
              let e : length run + length (rest_of (case_named (home_care w)) (case_at w reg i) (es j)) ≡ rows - j =
              sym (length-append run (rest_of (case_named (home_care w)) (case_at w reg i) (es j))) ∙ ap length (run_rest (case_named (home_care w)) (case_at w reg i) (es j)) ∙ from-length event_row j (rows - j) in
              omega arith

          rest_from : j ≤ rows → rest_of (case_named (home_care w)) (case_at w reg i) (es j) ≡ es (j + length run)
          rest_from l =
              let s = run_short l in
              let k : length (from event_row j (j + length run - j)) ≡ length run = from-length event_row j (j + length run - j) ∙ (let z : j + length run - j ≡ length run = omega arith in z) in
              sym (drop_at run (rest_of (case_named (home_care w)) (case_at w reg i) (es j)) (length run) refl)
              ∙ ap (drop (length run)) (run_rest (case_named (home_care w)) (case_at w reg i) (es j) ∙ from_cut event_row j (j + length run) rows (omega arith) (omega arith))
              ∙ drop_at (from event_row j (j + length run - j)) (es (j + length run)) (length run) k

          -- a good run ends within the rows, and the rest goes on from there
          pub run_on : (good : Bool) (r : Option ℕ) (end : ℕ) → good ≡ case_fits reg i → good ≡ true → r ≡ ran w (case_at w reg i) j (es j) → r ≡ Some end → j ≤ rows → (j ≤ end) × (end ≤ rows) × Rest (i + 1) end
          run_on good r end fit f told e l =
              let g = picked (good_run (home_care_rules w) (case_at w reg i) run) (j + length run) end (sym told ∙ e) in
              let s = run_short l in
              let b : j + length run ≡ end = g.1 in (
                omega arith,
                omega arith,
                record {
                  allow = allow_on (sym fit ∙ f);
                  up = up_on (sym fit ∙ f);
                  runs = one_case_lem ∙ rw (g.0, rest_from l, b);
                },
              )

        -- all cases are past: no event is left
        pub pass_done : cases ≤ i → j ≤ rows → eqb j rows ≡ valid (home_care w) (home_care_rules w) n state
        unfolding grouped
        pass_done h l =
            let a = rows_done case_row (case_row_allowed_wide w) _ true i cases rest.allow h in
            let u = climb_done (home_care w) w key_bits reg refl _ true (i - 1) cases rest.up (omega arith) in
            sym (valid_is ∙ rw (sym a, sym u, rest.runs, from_none case_row i cases h) (go (tri j rows)))
          where
            go : Tri j rows → walked [] (es j) ≡ eqb j rows
            go (below b _ e) = ap (walked []) (from_next event_row j rows b) ∙ sym e
            go (equal b _ e) = ap (walked []) (from_none event_row j rows (omega arith)) ∙ sym e
            go (above b _ e) = absurd (omega arith)
