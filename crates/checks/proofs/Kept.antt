-- An accepted record leaves a sound state sound.
use Prim.Native.Nat.{ℕ, ◌+◌, ◌≤◌}
use mathlib.Core.Path.{◌≡◌, refl, sym, ap, ◌∙◌, subst}
use mathlib.Core.Logic.{⊎_elim}
use mathlib.Core.Bool.{Bool, true, false, cond, not, ◌&&◌, ◌||◌}
use mathlib.Core.List.{List, [], ◌∷◌, map}
use mathlib.Core.Option.{Option, none}
use native.Mathlib.Decide.{ℕ_discrete}
use lib.Dec.{eqb, ltb}
use lib.ListN.{length}
use borrow.Author.Tests.{eqb-true, not-true, not-false}
use Rattle.laws.specs.Lists.{all, any}
use Rattle.laws.proofs.Truth.{and_left, and_right, or_left, or_right}
use Rattle.laws.proofs.Every.{and_tell}
use Rattle.model.specs.Map.{Row, Map, find, has, put_all, del_all}
use Rattle.model.specs.Checks.{first, test_of}
use Rattle.model.specs.Transmission.{Kind, insert, vary, cancel, is_cancel}
use Rattle.model.specs.Flow.{State, Good, applied, machine}
use Rattle.model.specs.Log.{shown}
use Rattle.model.proofs.ChecksLaws.{clear}
use Rattle.model.proofs.MapLaws.{find-keep, asc_keep, ext, has-put, has-keep, keep-has, has-put_all, has-del_all}
use Rattle.model.proofs.FlowLaws.{event_found, good_applied}
use Rattle.model.proofs.FlowHistories.{fits_law}
use Rattle.register.specs.Layout.{case_named}
use Rattle.register.specs.RoomAndEmptying.{room}
use Rattle.register.specs.Sound.{events_of, valid}
use Rattle.register.specs.Stored.{Fits, cases as case_group, events as event_group}
use Rattle.home_care.specs.Row.{key_number, siad, taken_in, event_number_in, event_row, date_of, end_of}
use Rattle.home_care.proofs.Table.{key_lt}
use Rattle.home_care.specs.Anomalies.{is_suspension, t23, t25, Context}
use Rattle.home_care.specs.Allowed.{case_row_allowed, event_row_allowed}
use Rattle.home_care.specs.Record.{Head, Admission, Said, Record, admission, events, event_numbers, type_of}
use Rattle.home_care.proofs.ReadBack.{taken_read, event_read}
use Rattle.soundness.specs.Sound.{events_free, siad_rules}
use Rattle.checks.specs.Flow.{case_row, event_rows, flow, next}
use Rattle.checks.specs.CheckOrder.{checks_of, afterwards}
use Rattle.checks.specs.Readable.{Readable, KeyReadable, CaseReadable, event_readable}
use Rattle.checks.proofs.Accepted.{numbered, lawful, not17}
use Rattle.checks.proofs.RowTests.{all-cases, all-events, keep_within, sized, sized_fits, fits_sized, kept_all}
use Rattle.checks.proofs.RowsAllowed.{case_row_sized, case_row_allowed_lem, number_lt, evaluation_lt, each_row, passes, all_pass, event_row_allowed_lem, event_row_sized, row_case}
use Rattle.checks.proofs.Valid.{Sound, Parts, parts_of, valid_of, free_of, free_any, ends, all-ends, five, free_23}

-- Track 2: nothing is carried away besides
abbrev nothing : ℕ → Bool
nothing k = false

same_cases : (s : State ℕ ℕ) (es : Map ℕ) (t : Kind) → (applied t [] es nothing s).cases ≡ s.cases
unfolding put_all del_all
same_cases s es insert = refl
same_cases s es vary = refl
same_cases s es cancel = refl

or_so : (a b : Bool) → b ≡ true → a || b ≡ true
or_so true b h = refl
or_so false b h = h

-- what holds of every row whose suspension doesn't end before it begins holds of the rows of a record free of 23
new_ends : (c : ℕ) (q : Row ℕ → Bool) → ((r : Row ℕ) → ends r ≡ true → q r ≡ true) →
    (es : List Said) → all event_readable es ≡ true → t23 (event_numbers es) ≡ false → all q (event_rows c es) ≡ true
unfolding all any event_numbers event_rows
new_ends c q f [] w h = refl
new_ends c q f (e ∷ es) w h =
    let r : event_readable e ≡ true = and_left (event_readable e) (all event_readable es) w in
    let now : Bool = is_suspension e.event && ltb (end_of e.event) (date_of e.event) in
    and_tell (q (event_row c e.event e.evaluation)) (all q (event_rows c es))
    (f (event_row c e.event e.evaluation)
    (ap (λ (x : ℕ). not (is_suspension x && ltb (end_of x) (date_of x))) (event_read c e.event e.evaluation (number_lt e r) (evaluation_lt e r)) ∙ ap not (or_left now (t23 (event_numbers es)) h)))
    (new_ends c q f es (and_right (event_readable e) (all event_readable es) w) (or_right now (t23 (event_numbers es)) h))

module _ (n : ℕ) (s : State ℕ ℕ) (p : Parts n s) where
  module _ (x : Row ℕ) where
    -- the events of the case of the row x
    abbrev own_of : ℕ → Bool
    own_of k = eqb (case_named siad k) x.key

    -- every event's case stands after a case's row: those of a cancelled case go with it
    tied1 : (t : Kind) (k : ℕ) → has k (applied t (x ∷ []) [] own_of s).events ≡ true → has (case_named siad k) (applied t (x ∷ []) [] own_of s).cases ≡ true
    unfolding put_all del_all
    tied1 insert k h = has-put (case_named siad k) x s.cases (p.tied k h)
    tied1 vary k h = has-put (case_named siad k) x s.cases (p.tied k h)
    tied1 cancel k h =
        let m = has-keep k (λ j. not (own_of j)) s.events h in
        keep-has (case_named siad k) (λ j. not (eqb j x.key)) s.cases (p.tied k m.0) m.1

    -- and the events of each case that stands are those that stood
    free1 : (t : Kind) (k : ℕ) → has k (applied t (x ∷ []) [] own_of s).cases ≡ true → free_of k (applied t (x ∷ []) [] own_of s).events ≡ true
    unfolding put_all del_all
    free1 insert k h = free_any n s p k
    free1 vary k h = free_any n s p k
    free1 cancel k h =
        let other : eqb k x.key ≡ false = not-true _ (has-keep k (λ j. not (eqb j x.key)) s.cases h).1 in
        ap (λ (m : Map ℕ). events_free (taken_in k) (map event_number_in m))
        (keep_within (λ j. eqb (case_named siad j) k) (λ j. not (own_of j)) s.events
        (λ j e. ap not (ap (λ (i : ℕ). eqb i x.key) (eqb-true (case_named siad j) k e) ∙ other)))
        ∙ free_any n s p k

  -- after events' rows, where 24 doesn't hold
  module _ (c : ℕ) (es : List Said) (w : all event_readable es ≡ true) where
    tied2 : (t : Kind) → not (has c s.cases) ≡ false → (k : ℕ) →
        has k (applied t [] (event_rows c es) nothing s).events ≡ true → has (case_named siad k) s.cases ≡ true
    tied2 insert q k h = ⊎_elim (λ g. rw (row_case c es w k g) (not-false _ q)) (p.tied k) (has-put_all k (event_rows c es) s.events h)
    tied2 vary q k h = ⊎_elim (λ g. rw (row_case c es w k g) (not-false _ q)) (p.tied k) (has-put_all k (event_rows c es) s.events h)
    tied2 cancel q k h =
        p.tied k (has-del_all k (event_rows c es) s.events (has-keep k (λ k. not false) (del_all (event_rows c es) s.events) h).0)

    -- another case's events are as they were
    others : (t : Kind) (d : ℕ) → (d ≡ c → ⊥) → events_of siad d (applied t [] (event_rows c es) nothing s).events ≡ events_of siad d s.events
    others t d ne =
        ext 0 (events_of siad d (applied t [] (event_rows c es) nothing s).events) (events_of siad d s.events)
        (asc_keep 0 _ _ (good_applied [] (event_rows c es) nothing s t p.good).1)
        (asc_keep 0 _ _ p.good.1)
        (λ k.
        find-keep k (λ k. eqb (case_named siad k) d) _ ∙
        ap (λ (o : Option ℕ). cond (eqb (case_named siad k) d) o none) (event_found [] (event_rows c es) nothing s t k) ∙
        go k (eqb (case_named siad k) d) refl (has k (event_rows c es)) refl t ∙
        sym (find-keep k (λ k. eqb (case_named siad k) d) s.events))
      where
        go : (k : ℕ) (b : Bool) → eqb (case_named siad k) d ≡ b → (x : Bool) → has k (event_rows c es) ≡ x → (t : Kind) →
            cond b (cond (x || (is_cancel t && false)) (shown t (find k (event_rows c es))) (find k s.events)) none ≡ cond b (find k s.events) none
        go k false e x h t = refl
        go k true e true h t = absurd (ne (sym (eqb-true (case_named siad k) d e) ∙ row_case c es w k h))
        go k true e false h insert = refl
        go k true e false h vary = refl
        go k true e false h cancel = refl

    -- none of the case's suspensions ends before it begins: 23 was judged of the record's, and the others stood
    abbrev ending : Row ℕ → Bool
    ending r = not (eqb (case_named siad r.key) c) || ends r

    own_ends : t23 (event_numbers es) ≡ false → all ending (event_rows c es) ≡ true
    own_ends q = new_ends c ending (λ r h. or_so (not (eqb (case_named siad r.key) c)) (ends r) h) es w q

    ended : (t : Kind) → t23 (event_numbers es) ≡ false → t23 (map event_number_in (events_of siad c (applied t [] (event_rows c es) nothing s).events)) ≡ false
    ended t q =
        let m : Map ℕ = (applied t [] (event_rows c es) nothing s).events in
        let old : all ends (events_of siad c s.events) ≡ true =
        not-false _ (sym (all-ends (events_of siad c s.events)) ∙ free_23 (taken_in c) (map event_number_in (events_of siad c s.events)) (free_any n s p c)) in
        let all_old : all ending s.events ≡ true = sym (kept_all (λ k. eqb (case_named siad k) c) ends s.events) ∙ old in
        let all_new : all ending m ≡ true = all-events [] (event_rows c es) nothing s ending t (own_ends q) all_old in
        all-ends (events_of siad c m) ∙ ap not (kept_all (λ k. eqb (case_named siad k) c) ends m ∙ all_new)

-- ---- the two tracks

module _ (c : Context) (n : ℕ) (r-is : c.room ≡ room siad n) (s : State ℕ ℕ) (v : valid siad siad_rules n s ≡ true) where
  p : Parts n s
  p = parts_of n s v

  -- order and room, of either track
  goes : (r : Record) → first (checks_of c r) s ≡ 0 → Good (next r s) × (length (next r s).cases + length (next r s).events ≤ room siad n)
  unfolding machine
  goes r e =
      let g = fits_law flow (checks_of c) (lawful c) c.room (not17 c) s r (p.good, rw r-is p.few) e in
      (g.0, rw r-is at g.1)

  module _ (h : Head) (a : Admission) (kr : KeyReadable h.key) (cr : CaseReadable a.case) (e : first (checks_of c (admission h a)) s ≡ 0) where
    abbrev x : Row ℕ
    x = case_row h.key a.case

    abbrev t1 : Kind
    t1 = type_of h.tipo

    passed1 : (k : ℕ) → test_of k (checks_of c (admission h a)) s ≡ false
    passed1 k = clear k (checks_of c (admission h a)) s (numbered c (admission h a)) e

    single : (q : Row ℕ → Bool) → q x ≡ true → all q (x ∷ []) ≡ true
    unfolding all
    single q g = and_tell (q x) true g refl

    -- no event comes in with it
    own_rows : (q : Row ℕ → Bool) → all q s.events ≡ true → all q (next (admission h a) s).events ≡ true
    unfolding all
    own_rows q = all-events (x ∷ []) [] (own_of n s p x) s q t1 refl

    valid1 : Parts n (next (admission h a) s)
    valid1 =
        let g = goes (admission h a) e in
        record {
          few = g.1;
          cases_allowed =
              all-cases (x ∷ []) [] (own_of n s p x) s case_row_allowed t1
              (single case_row_allowed (case_row_allowed_lem h.key a.case kr cr (passed1 11) (passed1 13))) p.cases_allowed;
          events_allowed = own_rows event_row_allowed p.events_allowed;
          good = g.0;
          tied = tied1 n s p x t1;
          free = free1 n s p x t1;
        }

    fits1 : Fits case_group siad s.cases → Fits case_group siad (next (admission h a) s).cases
    fits1 f =
        sized_fits case_group (next (admission h a) s).cases
        (all-cases (x ∷ []) [] (own_of n s p x) s (sized case_group) t1
        (single (sized case_group) (case_row_sized h.key a.case kr cr (passed1 11))) (fits_sized case_group s.cases f))

    events_fit1 : Fits event_group siad s.events → Fits event_group siad (next (admission h a) s).events
    events_fit1 f = sized_fits event_group (next (admission h a) s).events (own_rows (sized event_group) (fits_sized event_group s.events f))

  module _ (h : Head) (es : List Said) (kr : KeyReadable h.key) (w : all event_readable es ≡ true) (e : first (checks_of c (events h es)) s ≡ 0) where
    abbrev own : ℕ
    own = key_number h.key

    abbrev t2 : Kind
    t2 = type_of h.tipo

    abbrev rows : Map ℕ
    rows = event_rows own es

    passed2 : (k : ℕ) → test_of k (checks_of c (events h es)) s ≡ false
    passed2 k = clear k (checks_of c (events h es)) s (numbered c (events h es)) e

    -- the record's own case: 25 to 28 looked at what it would have afterwards
    own_free : free_of own (next (events h es) s).events ≡ true
    own_free =
        let after : List ℕ = afterwards next h (events h es) s in
        five (taken_in own) after (ended n s p own es w t2 (passed2 23)) (ap (λ (d : ℕ). t25 d after) (taken_read h.key kr.fits) ∙ passed2 25)
        (passed2 26) (passed2 27) (passed2 28)

    all_free : (k : ℕ) → Dec (k ≡ own) → free_of k (next (events h es) s).events ≡ true
    all_free k (yes q) = ap (λ (j : ℕ). free_of j (next (events h es) s).events) q ∙ own_free
    all_free k (no ne) = ap (λ (m : Map ℕ). events_free (taken_in k) (map event_number_in m)) (others n s p own es w t2 k ne) ∙ free_any n s p k

    valid2 : Parts n (next (events h es) s)
    valid2 =
        let g = goes (events h es) e in
        let sc : (applied t2 [] rows nothing s).cases ≡ s.cases = same_cases s rows t2 in
        record {
          few = g.1;
          cases_allowed = ap (all case_row_allowed) sc ∙ p.cases_allowed;
          events_allowed =
              all-events [] rows nothing s event_row_allowed t2 (each_row own event_row_allowed passes (event_row_allowed_lem own) es (all_pass es w (passed2 21) (passed2 13))) p.events_allowed;
          good = g.0;
          tied = λ k q. ap (λ (m : Map ℕ). has (case_named siad k) m) sc ∙ tied2 n s p own es w t2 (passed2 24) k q;
          free = λ k q. all_free k (ℕ_discrete k own);
        }

    fits2 : Fits event_group siad s.events → Fits event_group siad (next (events h es) s).events
    fits2 f =
        sized_fits event_group (next (events h es) s).events
        (all-events [] rows nothing s (sized event_group) t2
        (each_row own (sized event_group) event_readable (event_row_sized own (key_lt h.key kr.fits)) es w)
        (fits_sized event_group s.events f))

  -- an accepted record that was read leaves a valid state
  pub valid_kept : (r : Record) → Readable r → first (checks_of c r) s ≡ 0 → valid siad siad_rules n (next r s) ≡ true
  valid_kept (admission h a) w e = valid_of n (next (admission h a) s) (valid1 h a w.0 w.1 e)
  valid_kept (events h es) w e = valid_of n (next (events h es) s) (valid2 h es w.0 w.1 e)

  -- and rows that have their sizes
  pub cases_fit_kept : (r : Record) → Readable r → first (checks_of c r) s ≡ 0 → Fits case_group siad s.cases → Fits case_group siad (next r s).cases
  cases_fit_kept (admission h a) w e f = fits1 h a w.0 w.1 e f
  cases_fit_kept (events h es) w e f = subst (Fits case_group siad) (sym (same_cases s (event_rows (key_number h.key) es) (type_of h.tipo))) f

  pub events_fit_kept : (r : Record) → Readable r → first (checks_of c r) s ≡ 0 → Fits event_group siad s.events → Fits event_group siad (next r s).events
  events_fit_kept (admission h a) w e f = events_fit1 h a w.0 w.1 e f
  events_fit_kept (events h es) w e f = fits2 h es w.0 w.1 e f

-- SOUNDNESS KEPT: an accepted record that was read leaves a sound state sound
pub kept : (c : Context) (n : ℕ) → c.room ≡ room siad n → (s : State ℕ ℕ) → Sound n s → (r : Record) → Readable r → first (checks_of c r) s ≡ 0 → Sound n (next r s)
kept c n q s i r w e =
    record {
      is_valid = valid_kept c n q s i.is_valid r w e;
      cases_fit = cases_fit_kept c n q s i.is_valid r w e i.cases_fit;
      events_fit = events_fit_kept c n q s i.is_valid r w e i.events_fit;
    }
