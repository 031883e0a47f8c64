-- All rows of a state widened: their bytes, and that what is valid stays valid.
use Prim.Native.Nat.{ℕ, zero, suc, ◌+◌, ◌*◌, ◌^◌, ◌≤◌}
use mathlib.Core.Path.{◌≡◌, refl, ap, ap₂, ◌∙◌}
use mathlib.Core.Bool.{Bool, true, false, cond, ◌&&◌}
use mathlib.Core.List.{List, [], ◌∷◌, ◌++◌, append_assoc, map}
use mathlib.Core.Option.{some}
use native.Mathlib.Omega.{arith}
use lib.Dec.{eqb, ltb, leb}
use lib.ListN.{length, drop}
use borrow.Author.Tests.{le-leb}
use Rattle.laws.specs.Lists.{all}
use Rattle.laws.proofs.Truth.{and_left, and_right}
use Rattle.laws.proofs.Every.{and_tell}
use Rattle.model.specs.Map.{Row, Map, is_some, find, has, keep, Asc}
use Rattle.model.specs.Flow.{State}
use Rattle.rows.specs.Packing.{each, Fit, num, digits}
use Rattle.rows.proofs.Bytes.{fit_take, fit_drop}
use Rattle.register.specs.Gap.{bytes_at}
use Rattle.register.specs.Layout.{case_named, row_in}
use Rattle.register.specs.RoomAndEmptying.{room}
use Rattle.register.specs.Sound.{ascending, events_of, valid}
use Rattle.register.specs.State.{from, unsplit, rows_bytes, state_of}
use Rattle.register.specs.Stored.{Group, rest_of, split_of, Fits}
use Rattle.register.proofs.MixedKeys.{number_of}
use Rattle.home_care.specs.Row.{row_bytes, old_bytes, home_care, siad, taken_in, event_number_in_wide, event_number_in}
use Rattle.home_care.specs.Allowed.{case_row_allowed_wide, event_row_allowed_wide}
use Rattle.soundness.specs.Sound.{events_free, home_care_rules, siad_rules}
use Rattle.soundness.proofs.Deciding.{SoundFacts}
use Rattle.widening.specs.Converted.{widened}
use Rattle.widening.specs.Widened.{wide_row}
use Rattle.widening.proofs.Laying.{behind, bytes_long}
use Rattle.widening.proofs.WideRows.{behind_bits, row_bytes_lem, wide_number, event_fields, case_allowed_lem, event_allowed_lem, wide_sized}

-- all rows, and a state
abbrev pub wide_rows : Map ℕ → Map ℕ
wide_rows m = map wide_row m

abbrev pub wide_state : State ℕ ℕ → State ℕ ℕ
wide_state s = record { cases = wide_rows s.cases; events = wide_rows s.events }

-- ---- their bytes are those of before, with zero bytes behind each

module _ (g : Group) (old : List ℕ) (f : Fit (each 8 old)) where
  pub rows_wide : (i k : ℕ) → 4 + old_bytes * (i + k) ≤ length old →
      rows_bytes siad (rest_of g siad) (wide_rows (from (λ j. split_of g (home_care old_bytes) (row_in (home_care old_bytes) old j)) i k)) ≡ widened old i k
  unfolding from rows_bytes row_in widened
  rows_wide i zero h = refl
  rows_wide i (suc k) h =
      let t : List ℕ = bytes_at old_bytes old i in
      let ft : Fit (each 8 t) = fit_take 8 old_bytes (drop (4 + old_bytes * i) old) (fit_drop 8 (4 + old_bytes * i) old f) in
      let r : Row ℕ = split_of g (home_care old_bytes) (num t) in
      let n : unsplit (rest_of g siad) (wide_row r) ≡ num t * 2 ^ behind_bits = wide_number g r ∙ ap (λ (m : ℕ). m * 2 ^ behind_bits) (number_of g (home_care old_bytes) (num t)) in
      ap₂ (λ (x y : List ℕ). x ++ y) (ap (digits row_bytes) n ∙ row_bytes_lem t ft (bytes_long old i (omega arith))) (rows_wide (suc i) k (omega arith))
      ∙ append_assoc t behind (widened old (suc i) k)

-- ---- the keys are the same

pub wide_asc : (b : ℕ) (m : Map ℕ) → Asc b m → Asc b (wide_rows m)
unfolding Asc
wide_asc b [] h = tt
wide_asc b (r ∷ m) h = (h.0, wide_asc (suc r.key) m h.1)

pub wide_fits : (g : Group) (m : Map ℕ) → Fits g (home_care old_bytes) m → Fits g siad (wide_rows m)
unfolding Fits
wide_fits g [] h = tt
wide_fits g (r ∷ m) h = (wide_sized g r h.0, wide_fits g m h.1)

-- a test of the rows of now that follows from one of those of before
pub all_wide : (p q : Row ℕ → Bool) → ((r : Row ℕ) → p r ≡ true → q (wide_row r) ≡ true) → (m : Map ℕ) → all p m ≡ true → all q (wide_rows m) ≡ true
unfolding all
all_wide p q f [] h = refl
all_wide p q f (r ∷ m) h = and_tell (q (wide_row r)) (all q (wide_rows m)) (f r (and_left (p r) (all p m) h)) (all_wide p q f m (and_right (p r) (all p m) h))

wide_ascending : (m : Map ℕ) → ascending m ≡ true → ascending (wide_rows m) ≡ true
unfolding ascending
wide_ascending [] h = refl
wide_ascending (r ∷ m) h =
    and_tell (all (λ s. ltb r.key s.key) (wide_rows m)) (ascending (wide_rows m))
    (all_wide (λ s. ltb r.key s.key) (λ s. ltb r.key s.key) (λ s e. e) m (and_left (all (λ s. ltb r.key s.key) m) (ascending m) h))
    (wide_ascending m (and_right (all (λ s. ltb r.key s.key) m) (ascending m) h))

wide_has : (k : ℕ) (m : Map ℕ) → has k (wide_rows m) ≡ has k m
unfolding find
wide_has k [] = refl
wide_has k (r ∷ m) = go (eqb k r.key) (wide_has k m)
  where
    go : (b : Bool) → has k (wide_rows m) ≡ has k m → is_some (cond b (some (wide_row r).val) (find k (wide_rows m))) ≡ is_some (cond b (some r.val) (find k m))
    go true e = refl
    go false e = e

wide_keep : (p : ℕ → Bool) (m : Map ℕ) → keep p (wide_rows m) ≡ wide_rows (keep p m)
unfolding keep
wide_keep p [] = refl
wide_keep p (r ∷ m) = go (p r.key) (wide_keep p m)
  where
    go : (b : Bool) → keep p (wide_rows m) ≡ wide_rows (keep p m) →
        cond b (wide_row r ∷ keep p (wide_rows m)) (keep p (wide_rows m)) ≡ wide_rows (cond b (r ∷ keep p m) (keep p m))
    go true e = ap (λ (l : Map ℕ). wide_row r ∷ l) e
    go false e = e

-- ---- and the events' numbers

same_events : (m : Map ℕ) → map event_number_in (wide_rows m) ≡ map (event_number_in_wide old_bytes) m
same_events [] = refl
same_events (r ∷ m) = ap₂ ◌∷◌ (event_fields r) (same_events m)

same_together : (c : ℕ) (m : Map ℕ) → siad_rules.together c (events_of siad c (wide_rows m)) ≡ (home_care_rules old_bytes).together c (events_of (home_care old_bytes) c m)
same_together c m =
    let own : ℕ → Bool = λ k. eqb (case_named siad k) c in
    ap (λ (l : Map ℕ). siad_rules.together c l) (wide_keep own m) ∙ ap (events_free (taken_in c)) (same_events (keep own m))

-- ---- so what is valid in rows of before is valid in those of now, in n bytes with the room

pub wide_valid : (old : List ℕ) (n : ℕ) → SoundFacts old_bytes old →
    length (wide_rows (state_of (home_care old_bytes) old).cases) + length (wide_rows (state_of (home_care old_bytes) old).events) ≤ room siad n →
    valid siad siad_rules n (wide_state (state_of (home_care old_bytes) old)) ≡ true
wide_valid old n f few =
    let cs : Map ℕ = (state_of (home_care old_bytes) old).cases in
    let es : Map ℕ = (state_of (home_care old_bytes) old).events in
    and_tell (leb (length (wide_rows cs) + length (wide_rows es)) (room siad n)) _ (le-leb (length (wide_rows cs) + length (wide_rows es)) (room siad n) few)
    (and_tell (all (case_row_allowed_wide row_bytes) (wide_rows cs) && all (event_row_allowed_wide row_bytes) (wide_rows es)) _
    (and_tell (all (case_row_allowed_wide row_bytes) (wide_rows cs)) _
    (all_wide (case_row_allowed_wide old_bytes) (case_row_allowed_wide row_bytes) case_allowed_lem cs f.case_rows)
    (all_wide (event_row_allowed_wide old_bytes) (event_row_allowed_wide row_bytes) event_allowed_lem es f.event_rows_lem))
    (and_tell (ascending (wide_rows cs) && ascending (wide_rows es)) _
    (and_tell (ascending (wide_rows cs)) _ (wide_ascending cs f.cases_up) (wide_ascending es f.events_up))
    (and_tell (all (λ e. has (case_named siad e.key) (wide_rows cs)) (wide_rows es)) _
    (all_wide (λ e. has (case_named (home_care old_bytes) e.key) cs) (λ e. has (case_named siad e.key) (wide_rows cs))
    (λ r e. wide_has (case_named siad r.key) cs ∙ e) es f.stand)
    (all_wide (λ c. (home_care_rules old_bytes).together c.key (events_of (home_care old_bytes) c.key es)) (λ c. siad_rules.together c.key (events_of siad c.key (wide_rows es)))
    (λ r e. same_together r.key es ∙ e) cs f.free))))
