-- The events that are chosen, as rows that stand: their keys are the rows', they climb, and less_chosen them the others are left.
use Prim.Native.Nat.{ℕ, ◌<◌}
use mathlib.Core.Path.{◌≡◌, refl, sym, ap, ◌∙◌}
use mathlib.Core.Bool.{Bool, true, false, cond, not, ◌&&◌}
use mathlib.Core.List.{List, [], ◌∷◌, map}
use mathlib.Core.Option.{some}
use native.Mathlib.Omega.{arith}
use lib.Dec.{eqb, ltb}
use borrow.Author.Tests.{ltb-true, lt-ltb, ne_eqb}
use Rattle.laws.specs.Lists.{all, any, some_pair}
use Rattle.laws.proofs.Truth.{and_left, and_right}
use Rattle.laws.proofs.Every.{Every, and_tell, or_tell, any_tell, all_told, every_map}
use Rattle.model.specs.Map.{Row, Map, is_some, find, has, Asc, all_in}
use Rattle.model.proofs.MapLaws.{asc_keep, keep_same, has-keep}
use Rattle.register.specs.Layout.{case_named}
use Rattle.register.specs.Sound.{ascending, events_of}
use Rattle.register.specs.Stored.{Fits, events as event_group}
use Rattle.register.proofs.Ascending.{asc_tell}
use Rattle.home_care.specs.Row.{row_bytes, siad, event_number_in, event_key_of, event_row}
use Rattle.home_care.proofs.EventKeys.{narrow}
use Rattle.home_care.proofs.ReadBack.{event_key}
use Rattle.checks.specs.Flow.{event_rows}
use Rattle.checks.proofs.RowTests.{key-all}
use Rattle.judge.specs.ByNumber.{clash}
use Rattle.judge.proofs.Keys.{Own, own_standing}
use Rattle.cancellation.specs.Chosen.{those, dated_in}
use Rattle.undoing.specs.ReadBack.{climbing, said}
use Rattle.undoing.specs.Undone.{stays}
use Rattle.undoing.proofs.Those.{every_those, those-map}
use Rattle.undoing.proofs.Rows.{less_rows, asc_those, has-those, those-keep, less_those}

-- own keys that climb are each there once: 22 does not hold
pub climbing_once : (es : List ℕ) → climbing es ≡ true → some_pair (clash 22) es ≡ false
unfolding climbing some_pair
climbing_once [] h = refl
climbing_once (e ∷ es) h =
    let above : all (λ f. ltb (event_key_of e) (event_key_of f)) es ≡ true = and_left (all (λ f. ltb (event_key_of e) (event_key_of f)) es) (climbing es) h in
    or_tell (any (clash 22 e) es) (some_pair (clash 22) es)
    (any_tell (clash 22 e) es
    (every_map es
    (λ f l. let g : event_key_of e < event_key_of f = ltb-true (event_key_of e) (event_key_of f) l in ne_eqb (event_key_of e) (event_key_of f) (λ q. omega arith))
    (all_told (λ f. ltb (event_key_of e) (event_key_of f)) es above)))
    (climbing_once es (and_right (all (λ f. ltb (event_key_of e) (event_key_of f)) es) (climbing es) h))

module _ (c : ℕ) where
  -- rows of the case with keys above one of its rows: their events' own keys are above its event's
  above_own : (r : Row ℕ) → Own c r → (m : Map ℕ) → Every (Own c) m → all (λ s. ltb r.key s.key) m ≡ true →
      all (λ f. ltb (event_key_of (event_number_in r)) (event_key_of f)) (map event_number_in m) ≡ true
  unfolding all
  above_own r o [] g h = refl
  above_own r o (s ∷ m) g h =
      let l : r.key < s.key = ltb-true r.key s.key (and_left (ltb r.key s.key) _ h) in
      let p = o.parts in
      let q = g.0.parts in
      and_tell (ltb (event_key_of (event_number_in r)) (event_key_of (event_number_in s))) _
      (lt-ltb (event_key_of (event_number_in r)) (event_key_of (event_number_in s)) (omega arith))
      (above_own r o m g.1 (and_right (ltb r.key s.key) _ h))

  -- rows of the case whose keys ascend: their events' own keys climb
  climbs_own : (m : Map ℕ) → Every (Own c) m → ascending m ≡ true → climbing (map event_number_in m) ≡ true
  unfolding climbing ascending
  climbs_own [] g h = refl
  climbs_own (r ∷ m) g h =
      and_tell (all (λ f. ltb (event_key_of (event_number_in r)) (event_key_of f)) (map event_number_in m)) (climbing (map event_number_in m))
      (above_own r g.0 m g.1 (and_left (all (λ s. ltb r.key s.key) m) (ascending m) h))
      (climbs_own m g.1 (and_right (all (λ s. ltb r.key s.key) m) (ascending m) h))

  -- a row of the case, and the row that its event makes, have one key
  same_key : (r : Row ℕ) → Own c r → (event_row c (event_number_in r) 0).key ≡ r.key
  same_key r o = event_key c (event_number_in r) 0 (narrow row_bytes r) (omega arith) ∙ sym o.parts

  -- the rows that the events of rows make
  abbrev again : Map ℕ → Map ℕ
  again m = event_rows c (map said (map event_number_in m))

  -- they have the same keys
  same_keys : (k : ℕ) (m : Map ℕ) → Every (Own c) m → has k (again m) ≡ has k m
  unfolding find event_rows
  same_keys k [] g = refl
  same_keys k (r ∷ m) g = go (eqb k (event_row c (event_number_in r) 0).key) (ap (eqb k) (same_key r g.0)) (same_keys k m g.1)
    where
      go : (b : Bool) → b ≡ eqb k r.key → has k (again m) ≡ has k m →
          is_some (cond b (some (event_row c (event_number_in r) 0).val) (find k (again m))) ≡ is_some (cond (eqb k r.key) (some r.val) (find k m))
      go true e ih = rw (← e)
      go false e ih = rw (← e) ih

  module _ (first last : ℕ) (m : Map ℕ) (up : Asc 0 m) (f : Fits event_group siad m) where
    -- the rows that are chosen, and their events
    abbrev rows : Map ℕ
    rows = those (λ r. dated_in first last (event_number_in r)) (events_of siad c m)

    abbrev picked : List ℕ
    picked = those (dated_in first last) (map event_number_in (events_of siad c m))

    -- to choose among the events is to choose among the rows
    of_rows : picked ≡ map event_number_in rows
    of_rows = those-map event_number_in (dated_in first last) (events_of siad c m)

    -- each is a row of the case
    own_each : Every (Own c) rows
    own_each = every_those (λ r. dated_in first last (event_number_in r)) (Own c) (events_of siad c m) (own_standing c m f)

    -- their events climb
    pub picked_climbs : climbing picked ≡ true
    picked_climbs =
        ap climbing of_rows
        ∙ climbs_own rows own_each
        (asc_tell 0 rows (asc_those _ 0 (events_of siad c m) (asc_keep 0 (λ k. eqb (case_named siad k) c) m up)))

    -- the rows that the chosen events make have the keys of those that stand
    picked_keys : (k : ℕ) → has k (event_rows c (map said picked)) ≡ has k rows
    picked_keys k = ap (λ (l : List ℕ). has k (event_rows c (map said l))) of_rows ∙ same_keys k rows own_each

    -- their keys stand
    pub picked_stand : all_in (event_rows c (map said picked)) m ≡ true
    unfolding all_in
    picked_stand =
        key-all (λ k. has k m) (event_rows c (map said picked))
        (λ k h. (has-keep k (λ k. eqb (case_named siad k) c) m (has-those _ (events_of siad c m) k (sym (picked_keys k) ∙ h))).0)

    -- less_chosen them the other cases' events and those of other days are left
    pub picked_out : less_rows (event_rows c (map said picked)) m ≡ those (stays c first last) m
    picked_out =
        keep_same (λ k. not (has k (event_rows c (map said picked)))) (λ k. not (has k rows)) m (λ k. ap not (picked_keys k))
        ∙ ap (λ (n : Map ℕ). less_rows n m) (those-keep (λ r. dated_in first last (event_number_in r)) (λ k. eqb (case_named siad k) c) m)
        ∙ less_those (λ r. eqb (case_named siad r.key) c && dated_in first last (event_number_in r)) 0 m up
