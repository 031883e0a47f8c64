-- The evaluation in force is that of the latest Rivalutazione that counts, or the case's own (RULES.md, N4): rows of one case ascend by kind and date.
use Prim.Native.Nat.{ℕ, ◌/◌, ◌^◌, ◌≤◌}
use mathlib.Core.Path.{◌≡◌, refl, sym, ap, ◌∙◌}
use mathlib.Core.Bool.{Bool, true, false, cond, true≢false, false≢true}
use mathlib.Core.List.{List}
use mathlib.Core.Option.{Option, none, some}
use native.Mathlib.Omega.{arith}
use lib.Dec.{eqb}
use lib.Pow.{shr_mono}
use borrow.Author.Tests.{eqb-true, eq-eqb}
use Rattle.laws.proofs.Truth.{and_left}
use Rattle.codes.specs.CodesAndCharacters.{revaluation}
use Rattle.model.specs.Map.{Row, Map, Asc, find, has, is_some, last_of}
use Rattle.model.specs.Flow.{State}
use Rattle.model.proofs.MapLaws.{find-keep, asc_keep}
use Rattle.rows.specs.Packing.{each, Fit}
use Rattle.register.specs.Layout.{case_named}
use Rattle.register.specs.State.{state_of}
use Rattle.register.specs.Sound.{events_of}
use Rattle.register.specs.Stored.{Stored, events, Sized}
use Rattle.home_care.specs.Row.{row_bytes, code_bits, siad, kind_of, date_of, conferma_of, anew, evaluates, event_number_in, event_key_of}
use Rattle.home_care.proofs.Laid.{row_width}
use Rattle.home_care.proofs.EventKeys.{key_dated, row_parts}
use Rattle.soundness.specs.Sound.{is_sound}
use Rattle.soundness.proofs.SoundLaws.{sound_is_stored}
use Rattle.evaluation.specs.InForce.{in_force_by, own_in, last_else, in_force}
use Rattle.evaluation.specs.Latest.{Candidate, IsInForce, renewed, own}
use Rattle.evaluation.proofs.Found.{Stands, none-some, every_stands, fits_every, none_told, Greatest, greatest}

-- a row that is in force is a Rivalutazione's
of_revaluation : (day : ℕ) (r : Row ℕ) → in_force_by day r ≡ true → kind_of (event_number_in r) ≡ revaluation
of_revaluation day r h =
    let e : ℕ = event_number_in r in
    eqb-true (kind_of e) revaluation (and_left (eqb (kind_of e) revaluation) (eqb (conferma_of e) anew) (and_left (evaluates e) _ h))

-- of two Rivalutazioni of a case the one with the smaller key has no later date
by_date : (r q : Row ℕ) → Sized events siad r → Sized events siad q → case_named siad r.key ≡ case_named siad q.key →
    kind_of (event_number_in r) ≡ revaluation → kind_of (event_number_in q) ≡ revaluation → q.key ≤ r.key → date_of (event_number_in q) ≤ date_of (event_number_in r)
by_date r q sr sq c kr kq l =
    let d : ℕ = event_number_in r in
    let e : ℕ = event_number_in q in
    let own : event_key_of e ≤ event_key_of d = omega (arith, row_parts row_bytes row_width r sr, row_parts row_bytes row_width q sq) in
    let both : event_key_of e / 2 ^ code_bits ≤ event_key_of d / 2 ^ code_bits = shr_mono code_bits own in
    omega (arith, key_dated d, key_dated e)

-- what stands: its events in order, with their sizes
module _ (s : State ℕ ℕ) (up : Asc 0 s.events) (sized : (r : Row ℕ) → Stands r s.events → Sized events siad r) (c day : ℕ) where
  abbrev rows : Map ℕ
  rows = events_of siad c s.events

  abbrev named : ℕ → Bool
  named k = eqb (case_named siad k) c

  -- the rows of the case are those that may count
  in_rows : (q : Row ℕ) → Candidate s c day q → Stands q rows
  in_rows q h = find-keep q.key named s.events ∙ rw (eq-eqb (case_named siad q.key) c h.of_case) h.stands

  of_rows : (r : Row ℕ) → Stands r rows → Stands r s.events × (case_named siad r.key ≡ c)
  of_rows r h = go (named r.key) refl (sym (find-keep r.key named s.events) ∙ h)
    where
      go : (b : Bool) → named r.key ≡ b → cond b (find r.key s.events) none ≡ some r.val → Stands r s.events × (case_named siad r.key ≡ c)
      go true e h = (h, eqb-true (case_named siad r.key) c e)
      go false e h = absurd (none-some r.val h)

  -- one of them is the last in force
  renewed_by : (r : Row ℕ) → last_of (in_force_by day) rows ≡ some r → IsInForce s c day (in_force s c day)
  renewed_by r e =
      let g : Greatest (in_force_by day) rows r = (greatest (in_force_by day) 0 rows r (asc_keep 0 named s.events up) e).0 in
      let t = of_rows r g.stands in
      let p : in_force_by day r ≡ true = g.passes in
      renewed r (record { stands = t.0; of_case = t.1; passes = p })
      (λ q h.
      by_date r q (sized r t.0) (sized q h.stands) (t.1 ∙ sym h.of_case) (of_revaluation day r p) (of_revaluation day q h.passes) (g.above q (in_rows q h) h.passes))
      (ap (last_else (own_in (find c s.cases))) e)

  -- none is
  own_by : (u : ℕ) → find c s.cases ≡ some u → last_of (in_force_by day) rows ≡ none → IsInForce s c day (in_force s c day)
  own_by u f e =
      own u f (λ q h. true≢false (sym h.passes ∙ every_stands (λ r. in_force_by day r ≡ false) rows q (none_told (in_force_by day) rows e) (in_rows q h)))
      (ap (last_else (own_in (find c s.cases))) e ∙ ap own_in f)

  in_force_lem : has c s.cases ≡ true → IsInForce s c day (in_force s c day)
  in_force_lem h = go (find c s.cases) refl (last_of (in_force_by day) rows) refl
    where
      go : (v : Option ℕ) → find c s.cases ≡ v → (o : Option (Row ℕ)) → last_of (in_force_by day) rows ≡ o → IsInForce s c day (in_force s c day)
      go v f (some r) e = renewed_by r e
      go (some u) f none e = own_by u f e
      go none f none e = absurd (false≢true (sym (ap is_some f) ∙ h))

-- N4, in a sound register
pub latest : (reg : List ℕ) → Fit (each 8 reg) → is_sound reg ≡ true → (c day : ℕ) → has c (state_of siad reg).cases ≡ true →
    IsInForce (state_of siad reg) c day (in_force (state_of siad reg) c day)
latest reg f h c day stands =
    let t : Stored siad reg (state_of siad reg) = sound_is_stored reg f h in
    in_force_lem (state_of siad reg) t.good.1 (λ r s. every_stands (Sized events siad) (state_of siad reg).events r (fits_every events siad (state_of siad reg).events t.events_fit) s) c day stands
