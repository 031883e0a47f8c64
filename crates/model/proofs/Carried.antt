-- What a file's cancellations carry away, counted once for each case from the state before the file; and "no cancellation came later", in words.
use Prim.Native.Nat.{ℕ, ◌+◌}
use mathlib.Core.Path.{◌≡◌, refl, sym, ap, ap₂, ◌∙◌}
use mathlib.Core.Logic.{◌↔◌}
use mathlib.Core.Bool.{Bool, true, false, cond, not, ◌&&◌, ◌||◌, true≢false}
use mathlib.Core.List.{List, [], ◌∷◌, ◌++◌, map, flat_map}
use mathlib.Core.Option.{some}
use native.Mathlib.Omega.{arith}
use lib.Dec.{eqb}
use lib.ListN.{length}
use borrow.Author.Tests.{eqb-true}
use Rattle.laws.specs.Lists.{all, any}
use Rattle.laws.proofs.Truth.{or_left, or_right, and_left, and_right}
use Rattle.laws.proofs.Lists.{any_append, any_or}
use Rattle.laws.proofs.Every.{Every, every_map}
use Rattle.model.proofs.MapLaws.{keep-true, keep_same, keep-keep, keep_none}
use Rattle.model.proofs.MapSizes.{size_keep}
use Rattle.model.proofs.MachineLaws.{taken_every}
use Rattle.model.proofs.FlowHistories.{events_plain}
use Rattle.model.specs.Map.{Map, is_some, find, has, keep, put_all, del_all}
use Rattle.model.specs.Checks.{Check}
use Rattle.model.specs.Machine.{Machine, accepts, run}
use Rattle.model.specs.Transmission.{Kind, insert, vary, cancel, is_insert, is_cancel}
use Rattle.model.specs.Flow.{State, Good, Flow, applied, machine}
use Rattle.model.specs.Log.{sum_of, distinct, accepted_by, Shown, EventStands, carries_away, of_event, Lawful, events_in, events_out, cases_cancelled, carried_once}
use Rattle.model.specs.Demands.{OneTrack}
use Rattle.model.specs.Demands.OneTrack.{cases_only, events_only}

-- ---- rows that pass one of two tests

module _ {F : Type 0} where
  -- tests that never both hold
  keep_either : (p q : ℕ → Bool) (m : Map F) → ((k : ℕ) → p k ≡ true → q k ≡ false) →
      length (keep (λ k. p k || q k) m) ≡ length (keep p m) + length (keep q m)
  unfolding keep
  keep_either p q [] h = refl
  keep_either p q (x ∷ m) h = go (p x.key) refl (q x.key) refl (keep_either p q m h)
    where
      go : (a : Bool) → p x.key ≡ a → (b : Bool) → q x.key ≡ b → length (keep (λ k. p k || q k) m) ≡ length (keep p m) + length (keep q m) →
          length (cond (a || b) (x ∷ keep (λ k. p k || q k) m) (keep (λ k. p k || q k) m)) ≡
          length (cond a (x ∷ keep p m) (keep p m)) + length (cond b (x ∷ keep q m) (keep q m))
      go true e true g ih = absurd (true≢false (sym g ∙ h x.key e))
      go true e false g ih = omega arith
      go false e true g ih = omega arith
      go false e false g ih = ih

-- ---- the rows of several cases, each case named once or more

module _ {F : Type 0} (own : ℕ → ℕ) (m : Map F) where
  abbrev rows_of : ℕ → Map F
  rows_of c = keep (λ k. eqb (own k) c) m

  -- counted case by case, each case once
  each_once : (cs : List ℕ) → sum_of (λ c. length (rows_of c)) (distinct cs) ≡ length (keep (λ k. any (eqb (own k)) cs) m)
  unfolding distinct sum_of any
  each_once [] = sym (ap length (keep_none (λ k. false) m (λ k. refl)))
  each_once (c ∷ cs) = go (any (eqb c) cs) refl (each_once cs)
    where
      named : (k : ℕ) (b : Bool) → any (eqb c) cs ≡ b → eqb (own k) c ≡ true → any (eqb (own k)) cs ≡ b
      named k b e g = ap (λ (j : ℕ). any (eqb j) cs) (eqb-true (own k) c g) ∙ e

      again : any (eqb c) cs ≡ true → (k : ℕ) → any (eqb (own k)) cs ≡ (eqb (own k) c || any (eqb (own k)) cs)
      again e k = in_it (eqb (own k) c) refl
        where
          in_it : (b : Bool) → eqb (own k) c ≡ b → any (eqb (own k)) cs ≡ (b || any (eqb (own k)) cs)
          in_it true g = named k true e g
          in_it false g = refl

      go : (b : Bool) → any (eqb c) cs ≡ b → sum_of (λ c. length (rows_of c)) (distinct cs) ≡ length (keep (λ k. any (eqb (own k)) cs) m) →
          sum_of (λ c. length (rows_of c)) (cond b (distinct cs) (c ∷ distinct cs)) ≡ length (keep (λ k. eqb (own k) c || any (eqb (own k)) cs) m)
      go true e ih = ih ∙ ap length (keep_same (λ k. any (eqb (own k)) cs) (λ k. eqb (own k) c || any (eqb (own k)) cs) m (again e))
      go false e ih =
          ap (λ (n : ℕ). length (rows_of c) + n) ih ∙ sym (keep_either (λ k. eqb (own k) c) (λ k. any (eqb (own k)) cs) m (λ k g. named k false e g))

-- a key stands among rows where it is one of their keys
has_keys : {F : Type 0} (k : ℕ) (m : Map F) → has k m ≡ any (eqb k) (map (λ x. x.key) m)
unfolding find any
has_keys k [] = refl
has_keys k (x ∷ m) = go (eqb k x.key) (has_keys k m)
  where
    go : (b : Bool) → has k m ≡ any (eqb k) (map (λ x. x.key) m) →
        is_some (cond b (some x.val) (find k m)) ≡ (b || any (eqb k) (map (λ x. x.key) m))
    go true ih = refl
    go false ih = ih

empty_map : {F : Type 0} (m : Map F) → eqb (length m) 0 ≡ true → m ≡ []
empty_map [] e = refl
empty_map (x ∷ m) e = absurd (let z : length (x ∷ m) ≡ 0 = eqb-true (length (x ∷ m)) 0 e in omega arith)

every_empty : {F R : Type 0} (rows : R → Map F) (rs : List R) → all (λ r. eqb (length (rows r)) 0) rs ≡ true → Every (λ r. rows r ≡ []) rs
unfolding all
every_empty rows [] h = tt
every_empty rows (r ∷ rs) h =
    (empty_map (rows r) (and_left (eqb (length (rows r)) 0) _ h), every_empty rows rs (and_right (eqb (length (rows r)) 0) _ h))

sum_none : {R : Type 0} (g : R → ℕ) (l : List R) → Every (λ r. g r ≡ 0) l → sum_of g l ≡ 0
unfolding sum_of
sum_none g [] h = refl
sum_none g (r ∷ l) h = rw (h.0, sum_none g l h.1) refl

count_none : {F : Type 0} (b : Bool) (m : Map F) → m ≡ [] → cond b (length m) 0 ≡ 0
count_none true m e = ap length e
count_none false m e = refl

keys_none : {F : Type 0} (b : Bool) (m : Map F) → m ≡ [] → cond b (map (λ x. x.key) m) [] ≡ []
keys_none true m e = ap (map (λ x. x.key)) e
keys_none false m e = refl

neither : (a b : Bool) → not a && not b ≡ not (a || b)
neither true b = refl
neither false b = refl

module _ {F E R : Type 0} (f : Flow F E R) (checks : R → List (Check (State F E))) where
  -- one record without event rows
  one_left : (t : Kind) (cs : Map F) (w : ℕ → Bool) (s : State F E) → (applied t cs [] w s).events ≡ keep (λ k. not (is_cancel t && w k)) s.events
  unfolding put_all del_all
  one_left insert cs w s = sym (keep-true (λ k. true) s.events (λ k. refl))
  one_left vary cs w s = sym (keep-true (λ k. true) s.events (λ k. refl))
  one_left cancel cs w s = refl

  act_left : (s : State F E) (r : R) → f.event_rows r ≡ [] → ((machine f checks).act s r).events ≡ keep (λ k. not (carries_away f k r)) s.events
  unfolding machine
  act_left s r e = ap (λ (es : Map E). (applied (f.kind r) (f.case_rows r) es (f.away r) s).events) e ∙ one_left (f.kind r) (f.case_rows r) (f.away r) s

  -- what a file without event rows leaves of the events: those that no accepted cancellation carries away
  left_after : (s : State F E) (rs : List R) → Every (λ r. f.event_rows r ≡ []) rs →
      (run (machine f checks) s rs).events ≡ keep (λ k. not (any (carries_away f k) (accepted_by (machine f checks) s rs))) s.events
  unfolding run accepted_by any
  left_after s [] h = sym (keep-true (λ k. true) s.events (λ k. refl))
  left_after s (r ∷ rs) h = go (accepts (machine f checks) s r) (left_after s rs h.1) (left_after ((machine f checks).act s r) rs h.1)
    where
      m : Machine (State F E) R
      m = machine f checks

      Left : State F E → Type 0
      Left z = (run m z rs).events ≡ keep (λ k. not (any (carries_away f k) (accepted_by m z rs))) z.events

      go : (b : Bool) → Left s → Left (m.act s r) →
          (run m (cond b (m.act s r) s) rs).events ≡
          keep (λ k. not (any (carries_away f k) (cond b (r ∷ accepted_by m (cond b (m.act s r) s) rs) (accepted_by m (cond b (m.act s r) s) rs)))) s.events
      go false old new = old
      go true old new =
          new
          ∙ ap (keep (λ k. not (any (carries_away f k) (accepted_by m (m.act s r) rs)))) (act_left s r h.0)
          ∙ keep-keep (λ k. not (any (carries_away f k) (accepted_by m (m.act s r) rs))) (λ k. not (carries_away f k r)) s.events
          ∙ keep_same _ (λ k. not (carries_away f k r || any (carries_away f k) (accepted_by m (m.act s r) rs))) s.events
          (λ k. neither (carries_away f k r) (any (carries_away f k) (accepted_by m (m.act s r) rs)))

  -- ---- in a file of one track

  -- K2, where `own k` is the case of the event k
  abbrev Total : (ℕ → ℕ) → State F E → List R → Type 0
  Total own s rs =
      length (run (machine f checks) s rs).events
      + (sum_of (events_out f) (accepted_by (machine f checks) s rs) + carried_once f own s.events (accepted_by (machine f checks) s rs))
      ≡ length s.events + sum_of (events_in f) (accepted_by (machine f checks) s rs)

  module _ (own : ℕ → ℕ) (along : (r : R) (k : ℕ) → f.away r k ≡ has (own k) (f.case_rows r)) where
    -- an event is carried away where its case is among those cancelled
    away_named : (k : ℕ) (r : R) → carries_away f k r ≡ any (eqb (own k)) (cases_cancelled f r)
    unfolding any
    away_named k r = go (is_cancel (f.kind r))
      where
        go : (b : Bool) → (b && f.away r k) ≡ any (eqb (own k)) (cond b (map (λ x. x.key) (f.case_rows r)) [])
        go true = along r k ∙ has_keys (own k) (f.case_rows r)
        go false = refl

    any_named : (k : ℕ) (log : List R) → any (carries_away f k) log ≡ any (eqb (own k)) (flat_map (cases_cancelled f) log)
    unfolding any flat_map
    any_named k [] = refl
    any_named k (r ∷ log) =
        ap₂ ◌||◌ (away_named k r) (any_named k log) ∙ sym (any_append (eqb (own k)) (cases_cancelled f r) (flat_map (cases_cancelled f) log))

    -- Track 1: no record has events of its own
    once_cases : (s : State F E) (rs : List R) → Every (λ r. f.event_rows r ≡ []) rs → Total own s rs
    once_cases s rs h =
        let log : List R = accepted_by (machine f checks) s rs in
        let few : Every (λ r. f.event_rows r ≡ []) log = taken_every (machine f checks) (λ r. f.event_rows r ≡ []) s rs h in
        let out : sum_of (events_out f) log ≡ 0 = sum_none (events_out f) log (every_map log (λ r. count_none (is_cancel (f.kind r)) (f.event_rows r)) few) in
        let new : sum_of (events_in f) log ≡ 0 = sum_none (events_in f) log (every_map log (λ r. count_none (is_insert (f.kind r)) (f.event_rows r)) few) in
        let gone : carried_once f own s.events log ≡ length (keep (λ k. any (carries_away f k) log) s.events)
        = each_once own s.events (flat_map (cases_cancelled f) log)
        ∙ ap length (keep_same (λ k. any (eqb (own k)) (flat_map (cases_cancelled f) log)) (λ k. any (carries_away f k) log) s.events (λ k. sym (any_named k log))) in
        let left : length (run (machine f checks) s rs).events ≡ length (keep (λ k. not (any (carries_away f k) log)) s.events) = ap length (left_after s rs h) in
        let whole : length (keep (λ k. not (any (carries_away f k) log)) s.events) + length (keep (λ k. any (carries_away f k) log) s.events) ≡ length s.events
        = size_keep (λ k. any (carries_away f k) log) s.events in
        omega arith

    -- Track 2: no record names a case
    none_named : (log : List R) → Every (λ r. f.case_rows r ≡ []) log → flat_map (cases_cancelled f) log ≡ []
    unfolding flat_map
    none_named [] h = refl
    none_named (r ∷ log) h = ap₂ ◌++◌ (keys_none (is_cancel (f.kind r)) (f.case_rows r) h.0) (none_named log h.1)

    away_none : (r : R) → f.case_rows r ≡ [] → (k : ℕ) → f.away r k ≡ false
    unfolding find
    away_none r e k = along r k ∙ ap (has (own k)) e

    once_events : Lawful f checks → (s : State F E) → Good s → (rs : List R) → Every (λ r. f.case_rows r ≡ []) rs → Total own s rs
    unfolding distinct sum_of
    once_events w s g rs h =
        let log : List R = accepted_by (machine f checks) s rs in
        let gone : carried_once f own s.events log ≡ 0
        = ap (λ (cs : List ℕ). sum_of (λ c. length (keep (λ k. eqb (own k) c) s.events)) (distinct cs))
        (none_named log (taken_every (machine f checks) (λ r. f.case_rows r ≡ []) s rs h)) in
        omega (arith, events_plain f checks w s g rs (every_map rs away_none h))

  pub once : Lawful f checks → (s : State F E) → Good s → (rs : List R) (own : ℕ → ℕ) → ((r : R) (k : ℕ) → f.away r k ≡ has (own k) (f.case_rows r)) →
      OneTrack f rs → Total own s rs
  once w s g rs own along (cases_only h) = once_cases own along s rs (every_empty f.event_rows rs h)
  once w s g rs own along (events_only h) = once_events own along w s g rs (every_empty f.case_rows rs h)

-- ---- "no accepted cancellation of its case came later"

-- the last record that speaks of an event is the last with its key, none that carries it away after it
pub in_words : {F E R : Type 0} (f : Flow F E R) (k : ℕ) (log : List R) (v : E) →
    Shown f.kind (λ r. find k (f.event_rows r)) (of_event f k) log v ↔ EventStands f k log v
in_words {R = R} f k log v = (to, from)
  where
    named : R → Bool
    named r = has k (f.event_rows r)

    to : Shown f.kind (λ r. find k (f.event_rows r)) (of_event f k) log v → EventStands f k log v
    to h =
        let n : any named h.is_last.after || any (carries_away f k) h.is_last.after ≡ false
        = sym (any_or named (carries_away f k) h.is_last.after) ∙ h.is_last.none_after in
        record {
          shown =
              record {
                by = h.by;
                is_last =
                    record {
                      before = h.is_last.before;
                      after = h.is_last.after;
                      list = h.is_last.list;
                      passes = ap is_some h.carries;
                      none_after = or_left (any named h.is_last.after) (any (carries_away f k) h.is_last.after) n;
                    };
                keeps = h.keeps;
                carries = h.carries;
              };
          none_later = or_right (any named h.is_last.after) (any (carries_away f k) h.is_last.after) n;
        }

    from : EventStands f k log v → Shown f.kind (λ r. find k (f.event_rows r)) (of_event f k) log v
    from h =
        let l = h.shown.is_last in
        record {
          by = h.shown.by;
          is_last =
              record {
                before = l.before;
                after = l.after;
                list = l.list;
                passes = rw (ap is_some h.shown.carries) refl;
                none_after = any_or named (carries_away f k) l.after ∙ rw l.none_after h.none_later;
              };
          keeps = h.shown.keeps;
          carries = h.shown.carries;
        }
