-- Any flow over any history: what stands is what the last accepted record that speaks of it left; the rows stay in order; the same
-- lookups, the same state; an insertion and then the cancellation of its keys gives the state back; the counts are conserved.
use Prim.Native.Nat.{ℕ, ◌+◌, ◌≤◌}
use mathlib.Core.Path.{◌≡◌, refl, sym, ap, ◌∙◌, subst}
use mathlib.Core.Logic.{◌↔◌}
use mathlib.Core.Bool.{Bool, true, false, cond, ◌||◌, true≢false}
use mathlib.Core.List.{List, [], ◌∷◌, ◌++◌}
use mathlib.Core.Option.{Option, none, some}
use native.Mathlib.Omega.{arith}
use lib.ListN.{length}
use Rattle.laws.proofs.Truth.{cond_both, or_left, or_right}
use Rattle.model.proofs.MapLaws.{find_nil, not_in, no_some, keep_none}
use Rattle.model.proofs.Lists.{last_of_iff}
use Rattle.laws.proofs.Every.{Every}
use Rattle.model.proofs.MachineLaws.{run_append, step_taken, run_keeps, run_all_keeps, conserved, total_taken, total_same}
use Rattle.model.proofs.Histories.{resolve, run_all-look, AllTaken, all_back, taken_all_all, log_run}
use Rattle.model.proofs.FlowLaws.{same, case_found, event_found, good_applied, cases_size, events_size, fits_applied}
use Rattle.model.specs.Map.{is_some, find, has, Asc, del_all, any_in, last_of}
use Rattle.model.specs.Checks.{Check, first}
use Rattle.model.specs.Log.{sum_of, accepted_by, total, run_all, taken_all, shown, Shown, of_case, of_event, case_shown, event_shown, Lawful, Undoes, cases_in, cases_out, events_in, events_out, carried}
use Rattle.model.specs.Machine.{Machine, run}
use Rattle.model.specs.Transmission.{Kind, insert, vary, cancel, is_cancel}
use Rattle.model.specs.Flow.{State, empty, Good, Flow, machine}
use Rattle.model.specs.Anomalies.{t17}

-- what the last record to speak leaves

module _ {F R : Type 0} (kind : R → Kind) (row_of : R → Option F) (speaks : R → Bool) (log : List R) (v : F) where
  kept : (t : Kind) (a : Option F) → shown t a ≡ some v → (is_cancel t ≡ false) × (a ≡ some v)
  kept insert a e = (refl, e)
  kept vary a e = (refl, e)
  kept cancel a e = absurd (no_some e)

  back : (t : Kind) (a : Option F) → is_cancel t ≡ false → a ≡ some v → shown t a ≡ some v
  back insert a c e = e
  back vary a c e = e
  back cancel a c e = absurd (true≢false c)

  shows : resolve (λ r. shown (kind r) (row_of r)) (last_of speaks log) none ≡ some v ↔ Shown kind row_of speaks log v
  shows = (to (last_of speaks log) refl, λ h. rw ((last_of_iff speaks log h.by).1 h.is_last) (back (kind h.by) (row_of h.by) h.keeps h.carries))
    where
      to : (o : Option R) → last_of speaks log ≡ o → resolve (λ r. shown (kind r) (row_of r)) o none ≡ some v → Shown kind row_of speaks log v
      to none q e = absurd (no_some e)
      to (some r) q e =
          let k = kept (kind r) (row_of r) e in
          record { by = r; is_last = (last_of_iff speaks log r).0 q; keeps = k.0; carries = k.1 }

-- the theorems

module _ {F E R : Type 0} (f : Flow F E R) (checks : R → List (Check (State F E))) where
  pub case_law : (k : ℕ) (s : State F E) (r : R) → find k ((machine f checks).act s r).cases ≡ cond (of_case f k r) (case_shown f k r) (find k s.cases)
  unfolding machine
  case_law k s r = case_found (f.case_rows r) (f.event_rows r) (f.away r) s (f.kind r) k

  pub event_law : (k : ℕ) (s : State F E) (r : R) →
      find k ((machine f checks).act s r).events ≡ cond (of_event f k r) (event_shown f k r) (find k s.events)
  unfolding machine
  event_law k s r = event_found (f.case_rows r) (f.event_rows r) (f.away r) s (f.kind r) k

  pub good_law : (s : State F E) (r : R) → Good s → (machine f checks).judge s r ≡ 0 → Good ((machine f checks).act s r)
  unfolding machine
  good_law s r g e = good_applied (f.case_rows r) (f.event_rows r) (f.away r) s (f.kind r) g

  pub good_empty : Good (empty {F = F} {E = E})
  unfolding Asc
  good_empty = (tt, tt)

  -- conservation, over one file
  module _ (l : Lawful f checks) (s : State F E) (g : Good s) (rs : List R) where
    pub cases_conserved :
        length (run (machine f checks) s rs).cases + sum_of (cases_out f) (accepted_by (machine f checks) s rs) ≡
        length s.cases + sum_of (cases_in f) (accepted_by (machine f checks) s rs)
    unfolding machine
    cases_conserved =
        simp (← total_taken (machine f checks) (cases_out f) s rs, ← total_taken (machine f checks) (cases_in f) s rs)
        (conserved (machine f checks) Good good_law (λ t. length t.cases) (λ _ r. cases_in f r) (λ _ r. cases_out f r) law s rs g)
      where
        law : (s : State F E) (r : R) → Good s → (machine f checks).judge s r ≡ 0 →
            length ((machine f checks).act s r).cases + cases_out f r ≡ length s.cases + cases_in f r
        law s r g e =
            cases_size (f.case_rows r) (f.event_rows r) (f.away r) s g (f.kind r) (l.not14 s r e) (l.not15 s r e) (l.not22 s r e)

    pub events_conserved :
        length (run (machine f checks) s rs).events + total (machine f checks) (λ s r. events_out f r + carried f s r) s rs ≡
        length s.events + sum_of (events_in f) (accepted_by (machine f checks) s rs)
    unfolding machine
    events_conserved =
        simp (← total_taken (machine f checks) (events_in f) s rs)
        (conserved (machine f checks) Good good_law (λ t. length t.events) (λ _ r. events_in f r) (λ s r. events_out f r + carried f s r) law s rs g)
      where
        law : (s : State F E) (r : R) → Good s → (machine f checks).judge s r ≡ 0 →
            length ((machine f checks).act s r).events + (events_out f r + carried f s r) ≡ length s.events + events_in f r
        law s r g e =
            events_size (f.case_rows r) (f.event_rows r) (f.away r) s g (f.kind r) (l.not14 s r e) (l.not15 s r e) (l.not22 s r e)

    pub events_plain : Every (λ r. (k : ℕ) → f.away r k ≡ false) rs →
        length (run (machine f checks) s rs).events + sum_of (events_out f) (accepted_by (machine f checks) s rs) ≡
        length s.events + sum_of (events_in f) (accepted_by (machine f checks) s rs)
    events_plain w =
        let t : total (machine f checks) (λ s r. events_out f r + carried f s r) s rs ≡ sum_of (events_out f) (accepted_by (machine f checks) s rs)
        = total_same (machine f checks) (λ s r. events_out f r + carried f s r) (λ _ r. events_out f r) s rs (each rs w) ∙
        total_taken (machine f checks) (events_out f) s rs in
        omega (arith, events_conserved)
      where
        none_carried : (s : State F E) (r : R) → ((k : ℕ) → f.away r k ≡ false) → events_out f r + carried f s r ≡ events_out f r
        none_carried s r h =
            let e : carried f s r ≡ 0 = simp (keep_none (f.away r) (del_all (f.event_rows r) s.events) h) (sym (cond_both (is_cancel (f.kind r)) 0)) in
            omega arith

        each : (rs : List R) → Every (λ r. (k : ℕ) → f.away r k ≡ false) rs → Every (λ r. (s : State F E) → events_out f r + carried f s r ≡ events_out f r) rs
        each [] h = tt
        each (r ∷ rs) h = (λ s. none_carried s r h.0, each rs h.1)

  -- V2: cases and events "are together at most R", always
  module _ (l : Lawful f checks) (room : ℕ) (not17 : (s : State F E) (r : R) → first (checks r) s ≡ 0 → t17 f room r s ≡ false) where
    abbrev Fits : State F E → Type 0
    Fits s = Good s × (length s.cases + length s.events ≤ room)

    pub fits_law : (s : State F E) (r : R) → Fits s → (machine f checks).judge s r ≡ 0 → Fits ((machine f checks).act s r)
    unfolding machine
    fits_law s r h e = (
      good_law s r h.0 e,
      fits_applied (f.case_rows r) (f.event_rows r) (f.away r) s h.0 room (f.kind r) (l.not14 s r e) (l.not15 s r e) (l.not22 s r e) (not17 s r e) h.1,
    )

    pub fits_run : (s : State F E) (rs : List R) → Fits s → Fits (run (machine f checks) s rs)
    fits_run s rs h = run_keeps (machine f checks) Fits fits_law s rs h

  -- histories
  module _ {X : Type 0} (entries : State F E → X → List R) where
    pub case_is : (xs : List X) (k : ℕ) →
        find k (run_all (machine f checks) entries empty xs).cases ≡
        resolve (case_shown f k) (last_of (of_case f k) (taken_all (machine f checks) entries empty xs)) none
    case_is xs k =
        run_all-look (machine f checks) (λ s. find k s.cases) (of_case f k) (case_shown f k) (case_law k) entries empty xs ∙ simp (← find_nil {F = F} k)

    pub event_is : (xs : List X) (k : ℕ) →
        find k (run_all (machine f checks) entries empty xs).events ≡
        resolve (event_shown f k) (last_of (of_event f k) (taken_all (machine f checks) entries empty xs)) none
    event_is xs k =
        run_all-look (machine f checks) (λ s. find k s.events) (of_event f k) (event_shown f k) (event_law k) entries empty xs ∙ simp (← find_nil {F = E} k)

    -- a case stands exactly when the last accepted record of it inserts or varies it, and shows that record's fields
    pub case_stands : (xs : List X) (k : ℕ) (v : F) →
        find k (run_all (machine f checks) entries empty xs).cases ≡ some v ↔
        Shown f.kind (λ r. find k (f.case_rows r)) (of_case f k) (taken_all (machine f checks) entries empty xs) v
    case_stands xs k v =
        rw (case_is xs k) (shows f.kind (λ r. find k (f.case_rows r)) (of_case f k) (taken_all (machine f checks) entries empty xs) v)

    pub event_stands : (xs : List X) (k : ℕ) (v : E) →
        find k (run_all (machine f checks) entries empty xs).events ≡ some v ↔
        Shown f.kind (λ r. find k (f.event_rows r)) (of_event f k) (taken_all (machine f checks) entries empty xs) v
    event_stands xs k v =
        rw (event_is xs k) (shows f.kind (λ r. find k (f.event_rows r)) (of_event f k) (taken_all (machine f checks) entries empty xs) v)

    pub ascending : (xs : List X) → Good (run_all (machine f checks) entries empty xs)
    ascending xs = run_all_keeps (machine f checks) Good good_law entries empty xs good_empty

    -- two histories with the same things standing leave one state
    pub canonical : (xs ys : List X) →
        ((k : ℕ) → find k (run_all (machine f checks) entries empty xs).cases ≡ find k (run_all (machine f checks) entries empty ys).cases) →
        ((k : ℕ) → find k (run_all (machine f checks) entries empty xs).events ≡ find k (run_all (machine f checks) entries empty ys).events) →
        run_all (machine f checks) entries empty xs ≡ run_all (machine f checks) entries empty ys
    canonical xs ys c e = same (ascending xs) (ascending ys) c e

  -- an accepted insertion, and then the cancellation of exactly its keys, gives the state back
  module _ (l : Lawful f checks) (s : State F E) (g : Good s) (a b : R)
      (taken-a : (machine f checks).judge s a ≡ 0) (ka : f.kind a ≡ insert) (kb : f.kind b ≡ cancel)
      (same_cases : (k : ℕ) → has k (f.case_rows b) ≡ has k (f.case_rows a))
      (same_events : (k : ℕ) → has k (f.event_rows b) ≡ has k (f.event_rows a))
      (clean : (k : ℕ) → f.away b k ≡ true → find k s.events ≡ none) where
    fresh : any_in (f.case_rows a) s.cases || any_in (f.event_rows a) s.events ≡ false
    unfolding machine
    fresh = simp ka at (l.not14 s a taken-a)

    cases_back : (k : ℕ) → find k ((machine f checks).act ((machine f checks).act s a) b).cases ≡ find k s.cases
    cases_back k = simp (case_law k, kb, ka, same_cases k) (go (find k (f.case_rows a)) refl)
      where
        go : (o : Option F) → find k (f.case_rows a) ≡ o → cond (is_some o) none (cond (is_some o) o (find k s.cases)) ≡ find k s.cases
        go none e = refl
        go (some v) e =
            sym (not_in k (f.case_rows a) s.cases (or_left (any_in (f.case_rows a) s.cases) (any_in (f.event_rows a) s.events) fresh) (ap is_some e))

    events_back : (k : ℕ) → find k ((machine f checks).act ((machine f checks).act s a) b).events ≡ find k s.events
    events_back k = simp (event_law k, kb, ka, same_events k) (go (find k (f.event_rows a)) refl (f.away b k) refl)
      where
        go : (o : Option E) → find k (f.event_rows a) ≡ o → (w : Bool) → f.away b k ≡ w →
            cond (is_some o || w) none (cond (is_some o || false) o (find k s.events)) ≡ find k s.events
        go none e true h = sym (clean k h)
        go none e false h = refl
        go (some v) e w h =
            sym (not_in k (f.event_rows a) s.events (or_right (any_in (f.case_rows a) s.cases) (any_in (f.event_rows a) s.events) fresh) (ap is_some e))

    pub act_back : (machine f checks).judge ((machine f checks).act s a) b ≡ 0 → (machine f checks).act ((machine f checks).act s a) b ≡ s
    act_back taken-b =
        same (good_law ((machine f checks).act s a) b (good_law s a g taken-a) taken-b) g cases_back events_back

    pub undone : (machine f checks).judge ((machine f checks).act s a) b ≡ 0 → run (machine f checks) s (a ∷ b ∷ []) ≡ s
    unfolding run
    undone taken-b = simp (taken-a, taken-b) (act_back taken-b)

  -- the two next to each other among the records that a history accepted: it leaves what one leaves that accepted the others alone
  module _ {X : Type 0} (entries : State F E → X → List R) (l : Lawful f checks) (xs ys : List X) (p q : List R) (a b : R)
      (with : taken_all (machine f checks) entries empty xs ≡ p ++ a ∷ b ∷ q) (without : taken_all (machine f checks) entries empty ys ≡ p ++ q) where
    abbrev m : Machine (State F E) R
    m = machine f checks

    abbrev met : State F E
    met = run m empty p

    both : AllTaken m met (a ∷ b ∷ q)
    both = all_back m empty p (a ∷ b ∷ q) (subst (AllTaken m empty) with (taken_all_all m entries empty xs))

    pub undone_within : Undoes f a b → ((k : ℕ) → f.away b k ≡ true → find k met.events ≡ none) →
        run_all m entries empty xs ≡ run_all m entries empty ys
    undone_within u clean =
        let taken-b : m.judge (m.act met a) b ≡ 0 = subst (λ (t : State F E). m.judge t b ≡ 0) (step_taken m met a both.0) both.1.0 in
        let good : Good met = run_keeps m Good good_law empty p good_empty in
        sym (log_run m entries empty xs)
        ∙ ap (run m empty) with
        ∙ run_append m empty p (a ∷ b ∷ q)
        ∙ run_append m met (a ∷ b ∷ []) q
        ∙ ap (λ (t : State F E). run m t q) (undone l met good a b both.0 u.inserts u.cancels u.cases u.events clean taken-b)
        ∙ sym (run_append m empty p q)
        ∙ sym (ap (run m empty) without)
        ∙ log_run m entries empty ys
