-- Both ways of `put_fields`: the fields that are put are those in force.
use Prim.Native.Nat.{ℕ, ◌+◌, ◌-◌, ◌≤◌, ◌<◌}
use mathlib.Core.Path.{◌≡◌, sym, ap, ap₂, subst, ◌∙◌}
use mathlib.Core.Bool.{true}
use mathlib.Core.List.{List}
use mathlib.Core.Option.{Option, some}
use native.Mathlib.Omega.{arith}
use lib.ListN.{length, take, drop}
use Rattle.model.specs.Map.{Row, Map, find, last_of}
use Rattle.rows.specs.Packing.{num}
use Rattle.register.specs.Layout.{case_rest, row_at, row_in, cases_held, events_held}
use Rattle.register.specs.State.{split, events_from, state_of}
use Rattle.register.proofs.Ascending.{asc_told}
use Rattle.register.proofs.States.{room_holds}
use Rattle.home_care.specs.Row.{row_bytes, siad}
use Rattle.home_care.specs.EventRows.{Climbs}
use Rattle.soundness.specs.Sound.{is_sound}
use Rattle.soundness.proofs.Deciding.{sound_told}
use Rattle.evaluation.specs.InForce.{in_force_by, last_else, own_in, in_force, fields_of}
use Rattle.judge.specs.CaseRows.{OfCase}
use Rattle.evaluation.specs.View.{event_row_at, LastKept, StandsAt}
use Rattle.std.specs.Prelude.{Option as Answer, None, Some}
use Rattle.evaluation.proofs.FieldsRead.{runs_at, own_scales, own_prevalente, kept_scales, kept_prevalente, own_read, kept_read}
use Rattle.evaluation.proofs.LastOf.{last_none, last_at, smaller, row_found}

-- a sound register's rows lie within it
pub rows_inside : (reg : List ℕ) → is_sound reg ≡ true → (4 ≤ length reg) × (row_at siad (cases_held reg + events_held reg) ≤ length reg)
rows_inside reg h = let s = sound_told reg h in (s.long, (room_holds siad (length reg) (cases_held reg + events_held reg) s.long s.few).1)

-- ---- the case's row

abbrev case_row : List ℕ → ℕ → Row ℕ
case_row reg j = split (case_rest siad) (row_in siad reg j)

module _ (reg : List ℕ) (c place : ℕ) (s : StandsAt reg c place) where
  abbrev cases : Map ℕ
  cases = (state_of siad reg).cases

  here : (smaller c cases < cases_held reg) × (find c cases ≡ some (case_row reg (0 + smaller c cases)).val)
  here = row_found (case_row reg) c 0 0 (cases_held reg) (asc_told cases (sound_told reg s.sound).cases_up) s.stands

  pub place_inside : place + row_bytes ≤ length reg
  place_inside = let r = (rows_inside reg s.sound).1 in let h = here.0 in omega (arith, s.there)

  -- what it has after the key
  own_is : find c cases ≡ some (case_row reg (smaller c cases)).val
  own_is =
      let e : 0 + smaller c cases ≡ smaller c cases = omega arith in
      here.1 ∙ ap (λ (j : ℕ). some (case_row reg j).val) e

  -- ---- the case's events

  module _ (day lo hi : ℕ) (o : OfCase c reg lo hi) where
    -- the last of the rows from lo up to hi decides
    by_rows : {m : Option (Row ℕ)} → last_of (in_force_by day) (events_from siad reg lo (hi - lo)) ≡ m → fields_of (in_force (state_of siad reg) c day) ≡ fields_of (last_else (own_in (find c cases)) m)
    by_rows e =
        ap (λ (n : Option (Row ℕ)). fields_of (last_else (own_in (find c cases)) n)) (ap (last_of (in_force_by day)) (o.are s.sound) ∙ e)

    module _ (k : Answer ℕ) (told : Climbs reg lo hi → LastKept reg day lo hi k) where
      last : LastKept reg day lo hi k
      last = told (o.settled s.sound).climbs

      -- one of them is in force
      module _ (i : ℕ) (is : k ≡ Some i) where
        at : LastKept reg day lo hi (Some i)
        at = subst (LastKept reg day lo hi) is last

        pub kept_inside : row_at siad (i + 1) ≤ length reg
        kept_inside = let a = at.1 in let b = o.end in omega arith

        pub kept_fields : (x row : List ℕ) → row ≡ take row_bytes (drop (row_at siad i) reg) → x ≡ runs_at kept_scales kept_prevalente (num row) → x ≡ fields_of (in_force (state_of siad reg) c day)
        unfolding row_in
        kept_fields x row r e =
            let m = o.mid in
            e ∙ ap (λ (b : List ℕ). runs_at kept_scales kept_prevalente (num b)) r ∙ kept_read (row_in siad reg i)
            ∙ sym (by_rows (last_at (in_force_by day) (event_row_at reg) lo (hi - lo) i at.0 (let h = at.1 in omega arith) at.2 (λ j a b. at.3 j a (omega arith))))

      -- none is
      pub own_fields : k ≡ None → (x row : List ℕ) → row ≡ take (place + row_bytes - place) (drop place reg) → x ≡ runs_at own_scales own_prevalente (num row) →
          x ≡ fields_of (in_force (state_of siad reg) c day)
      unfolding row_in
      own_fields is x row r e =
          let m = o.mid in
          let n : LastKept reg day lo hi None = subst (LastKept reg day lo hi) is last in
          let w : place + row_bytes - place ≡ row_bytes = omega arith in
          let q : row ≡ take row_bytes (drop (row_at siad (smaller c cases)) reg) = r ∙ ap₂ (λ (a b : ℕ). take a (drop b reg)) w s.there in
          e ∙ ap (λ (b : List ℕ). runs_at own_scales own_prevalente (num b)) q ∙ own_read (row_in siad reg (smaller c cases))
          ∙ sym (by_rows (last_none (in_force_by day) (event_row_at reg) lo (hi - lo) (λ j a b. n j a (omega arith))) ∙ ap (λ (v : Option ℕ). fields_of (own_in v)) own_is)
