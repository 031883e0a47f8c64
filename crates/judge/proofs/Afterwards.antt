-- 25 to 28: the events that the case would have afterwards, by the record's events and those that stand.
use Prim.Native.Nat.{ℕ}
use mathlib.Core.Path.{◌≡◌, refl, sym, ap, ap₂, ◌∙◌}
use mathlib.Core.Bool.{Bool, true, false, cond, not, ◌&&◌, ◌||◌, false≢true, and_comm, or_comm}
use mathlib.Core.List.{List, [], ◌∷◌, map}
use mathlib.Core.Option.{Option, none, some}
use native.Mathlib.Omega.{arith}
use lib.Dec.{eqb, ltb, leb}
use borrow.Author.Tests.{eqb-true, eqb-false, ne_eqb, le-ltb, not-true}
use Rattle.laws.specs.Lists.{all, any, some_pair}
use Rattle.laws.proofs.Truth.{or_left, or_right, and_left, and_right}
use Rattle.laws.proofs.Every.{Every, every_map, all_told, all_tell, both_false}
use Rattle.days.specs.DayNumbers.{day_count}
use Rattle.model.specs.Map.{Row, Map, is_some, or_else, find, has, put_all, del_all, keep, Asc, twice}
use Rattle.model.specs.Transmission.{Kind, insert, vary, cancel, is_cancel}
use Rattle.model.specs.Flow.{State, applied}
use Rattle.model.proofs.Lists.{any_same}
use Rattle.model.proofs.MapLaws.{find-keep, find-put_all, asc_keep, asc_put_all, keep-true, ext}
use Rattle.register.specs.Layout.{case_named}
use Rattle.register.specs.Sound.{events_of}
use Rattle.home_care.specs.Row.{row_bytes, never, key_number, siad, event_number_in, tail_in, kind_of, date_of, end_of, event_in}
use Rattle.home_care.specs.Anomalies.{is_suspension, is_conclusion, after_conclusion, t23, t25, t26, t27, t28, Context}
use Rattle.home_care.specs.Allowed.{event_allowed, end_allowed, tail_allowed_wide, event_row_allowed}
use Rattle.home_care.specs.Record.{Head, Said, events, event_numbers, type_of}
use Rattle.home_care.proofs.ReadBack.{taken_read, event_read}
use Rattle.soundness.specs.Sound.{events_free}
use Rattle.checks.specs.Flow.{event_rows, next}
use Rattle.checks.specs.CheckOrder.{afterwards}
use Rattle.checks.specs.Readable.{Readable, event_readable}
use Rattle.checks.proofs.RowTests.{all_keep, all-events}
use Rattle.checks.proofs.RowsAllowed.{number_lt, number_allowed, evaluation_lt, each_row, row_case}
use Rattle.checks.proofs.Valid.{Sound, Parts, parts_of, free_any}
use Rattle.judge.specs.ByNumber.{wrong, clash, key_among, fresh}
use Rattle.judge.proofs.Pairs.{any_agree, any-map, pair_map, all_pairs, any_keep, pair_keep, any-put_all, pair_put_all, fails_less}
use Rattle.judge.proofs.Keys.{Own, own_standing, own_rows, rows_back, has_own, twice_rows}

-- ---- what stands

pub record Clear (t : ℕ) (es : List ℕ) : Type 0 where
  pub no23 : t23 es ≡ false
  no25 : t25 t es ≡ false
  pub no26 : t26 es ≡ false
  no27 : t27 es ≡ false
  no28 : t28 es ≡ false

pub clear_of : (t : ℕ) (es : List ℕ) → events_free t es ≡ true → Clear t es
clear_of t es h =
    let a = or_right (t23 es) (t25 t es || (t26 es || (t27 es || t28 es))) (not-true _ h) in
    let b = or_right (t25 t es) (t26 es || (t27 es || t28 es)) a in
    let c = or_right (t26 es) (t27 es || t28 es) b in
    record {
      no23 = or_left (t23 es) _ (not-true _ h);
      no25 = or_left (t25 t es) _ a;
      no26 = or_left (t26 es) _ b;
      no27 = or_left (t27 es) _ c;
      no28 = or_right (t27 es) _ c;
    }

-- ---- 28 as a test of two: no event is after itself, as only a suspension has an end

not_after : (e : ℕ) → event_allowed (event_in e) ≡ true → after_conclusion e e ≡ false
not_after e h =
    both_false (is_conclusion e) _ (λ c.
    let k : kind_of e ≡ 3 = eqb-true (kind_of e) 3 c in
    let a : end_allowed (event_in e) ≡ true = and_left (end_allowed (event_in e)) _ (and_right (ltb (date_of e) day_count) _ h) in
    let d : ltb (date_of e) (date_of e) ≡ false = le-ltb (date_of e) (date_of e) (omega arith) in
    rw d (go (eqb (end_of e) never) (rw (ne_eqb (kind_of e) 2 (λ j. omega arith)) at a)))
  where
    go : (b : Bool) → b || false ≡ true → not b && ltb (date_of e) (end_of e) ≡ false
    go true a = refl
    go false a = absurd (false≢true a)

-- what is allowed of a row's 52 bits
abbrev fields_allowed : Row ℕ → Bool
fields_allowed r = event_allowed (event_in (event_number_in r))

none_after : (m : Map ℕ) → all fields_allowed m ≡ true → Every (λ e. after_conclusion e e ≡ false) (map event_number_in m)
unfolding all
none_after [] h = tt
none_after (r ∷ m) h =
    (not_after (event_number_in r) (and_left (fields_allowed r) (all fields_allowed m) h), none_after m (and_right (fields_allowed r) (all fields_allowed m) h))

as_pair : (m : Map ℕ) → all fields_allowed m ≡ true → t28 (map event_number_in m) ≡ some_pair (clash 28) (map event_number_in m)
as_pair m h = all_pairs after_conclusion (map event_number_in m) (none_after m h)

-- ---- the tests of two are the same both ways round

mirror26 : (a b : ℕ) → clash 26 a b ≡ clash 26 b a
mirror26 a b =
    ap₂ (λ (x y : Bool). x && y) (and_comm (is_suspension a) (is_suspension b)) (and_comm (leb (date_of a) (end_of b)) (leb (date_of b) (end_of a)))

mirror27 : (a b : ℕ) → clash 27 a b ≡ clash 27 b a
mirror27 a b = and_comm (is_conclusion a) (is_conclusion b)

mirror28 : (a b : ℕ) → clash 28 a b ≡ clash 28 b a
mirror28 a b = or_comm (after_conclusion a b) (after_conclusion b a)

-- ---- the case's events afterwards

module _ (c : ℕ) (es : List Said) (w : all event_readable es ≡ true) (n : ℕ) (s : State ℕ ℕ) (v : Sound n s) where
  abbrev rows : Map ℕ
  rows = event_rows c es

  abbrev stood : Map ℕ
  stood = events_of siad c s.events

  abbrev standing : List ℕ
  standing = map event_number_in stood

  abbrev left : Kind → Map ℕ
  left t = events_of siad c (applied t [] rows (λ k. false) s).events

  parts : Parts n s
  parts = parts_of n s v.is_valid

  -- the case's own rows, put in
  put_own : events_of siad c (put_all rows s.events) ≡ put_all rows stood
  put_own =
      let up = parts.good.1 in
      ext 0 (events_of siad c (put_all rows s.events)) (put_all rows stood)
      (asc_keep 0 (λ k. eqb (case_named siad k) c) (put_all rows s.events) (asc_put_all rows s.events up))
      (asc_put_all rows stood (asc_keep 0 (λ k. eqb (case_named siad k) c) s.events up))
      (λ k.
      find-keep k (λ k. eqb (case_named siad k) c) (put_all rows s.events)
      ∙ ap (λ (o : Option ℕ). cond (eqb (case_named siad k) c) o none) (find-put_all k rows s.events)
      ∙ go k (eqb (case_named siad k) c) refl (find k rows) refl
      ∙ ap (or_else (find k rows)) (sym (find-keep k (λ k. eqb (case_named siad k) c) s.events))
      ∙ sym (find-put_all k rows stood))
    where
      go : (k : ℕ) (b : Bool) → eqb (case_named siad k) c ≡ b → (o : Option ℕ) → find k rows ≡ o →
          cond (eqb (case_named siad k) c) (or_else (find k rows) (find k s.events)) none ≡ or_else (find k rows) (cond (eqb (case_named siad k) c) (find k s.events) none)
      go k true e o f = simp e
      go k false e none f = simp (e, f)
      go k false e (some x) f = absurd (eqb-false (case_named siad k) c e (row_case c es w k (ap is_some f)))

  -- a test of the case's events that fails of those that stand: after a record that inserts or varies, and after one that cancels
  module _ (test : List ℕ → Bool) (brought : Bool) (fails : test standing ≡ false)
      (put : test (map event_number_in (put_all rows stood)) ≡ brought)
      (less : (f : ℕ → Bool) (m : Map ℕ) → test (map event_number_in m) ≡ false → test (map event_number_in (keep f m)) ≡ false) where
    after : (t : Kind) → test (map event_number_in (left t)) ≡ (not (is_cancel t) && brought)
    after insert = ap (λ (m : Map ℕ). test (map event_number_in m)) put_own ∙ put
    after vary = ap (λ (m : Map ℕ). test (map event_number_in m)) put_own ∙ put
    after cancel =
        ap (λ (m : Map ℕ). test (map event_number_in (events_of siad c m))) (keep-true (λ k. not false) (del_all rows s.events) (λ k. refl))
        ∙ fails_less (λ m. test (map event_number_in m)) less (λ k. eqb (case_named siad k) c) rows s.events fails

  module _ (once : some_pair (clash 22) (event_numbers es) ≡ false) where
    single : twice rows ≡ false
    single = twice_rows c es w ∙ once

    up : Asc 0 stood
    up = asc_keep 0 (λ k. eqb (case_named siad k) c) s.events parts.good.1

    pub any_after : (q : ℕ → Bool) → any q standing ≡ false → (t : Kind) → any q (map event_number_in (left t)) ≡ (not (is_cancel t) && any q (event_numbers es))
    any_after q fails t =
        after (any q) (any q (event_numbers es)) fails
        (any-map event_number_in q (put_all rows stood)
        ∙ any-put_all (λ r. q (event_number_in r)) rows stood single up (sym (any-map event_number_in q stood) ∙ fails)
        ∙ sym (any-map event_number_in q rows)
        ∙ ap (any q) (rows_back c es w))
        (λ f m e. any-map event_number_in q (keep f m) ∙ any_keep (λ r. q (event_number_in r)) f m (sym (any-map event_number_in q m) ∙ e))
        t

    -- a row that stands, and is not replaced
    kept_own : (y : Row ℕ) → Own c y → not (has y.key rows) ≡ not (key_among (event_numbers es) (event_number_in y))
    kept_own y o = ap not (has_own c y rows o (own_rows c es w) ∙ ap (λ (l : List ℕ). key_among l (event_number_in y)) (rows_back c es w))

    module _ (p : ℕ → ℕ → Bool) where
      -- an event of the record, and one that stands and is not replaced
      meets : any (λ x. any (λ y. p (event_number_in x) (event_number_in y) && not (has y.key rows)) stood) rows
          ≡ any (λ a. any (λ b. p a b && not (key_among (event_numbers es) b)) standing) (event_numbers es)
      meets =
          any_same _ _ rows (λ x.
          any_agree (λ y. p (event_number_in x) (event_number_in y) && not (has y.key rows)) (λ y. p (event_number_in x) (event_number_in y) && not (key_among (event_numbers es) (event_number_in y))) stood
          (λ y o. ap (λ (b : Bool). p (event_number_in x) (event_number_in y) && b) (kept_own y o)) (own_standing c s.events v.events_fit)
          ∙ sym (any-map event_number_in (λ b. p (event_number_in x) b && not (key_among (event_numbers es) b)) stood))
          ∙ sym (any-map event_number_in (λ a. any (λ b. p a b && not (key_among (event_numbers es) b)) standing) rows)
          ∙ ap (any (λ a. any (λ b. p a b && not (key_among (event_numbers es) b)) standing)) (rows_back c es w)

      pub pair_after : ((a b : ℕ) → p a b ≡ p b a) → some_pair p standing ≡ false → (t : Kind) → some_pair p (map event_number_in (left t)) ≡ (not (is_cancel t) && fresh p (event_numbers es) standing)
      pair_after mirror fails t =
          let q : Row ℕ → Row ℕ → Bool = λ x y. p (event_number_in x) (event_number_in y) in
          after (some_pair p) (fresh p (event_numbers es) standing) fails
          (pair_map event_number_in p (put_all rows stood)
          ∙ pair_put_all q (λ x y. mirror (event_number_in x) (event_number_in y)) rows stood single up (sym (pair_map event_number_in p stood) ∙ fails)
          ∙ ap₂ (λ (a b : Bool). a || b) (sym (pair_map event_number_in p rows) ∙ ap (some_pair p) (rows_back c es w)) meets)
          (λ f m e. pair_map event_number_in p (keep f m) ∙ pair_keep q f m (sym (pair_map event_number_in p m) ∙ e))
          t

  -- the 52 bits of the case's rows are allowed, of those that stand and of those afterwards
  before_allowed : all fields_allowed s.events ≡ true
  before_allowed =
      all_tell fields_allowed s.events
      (every_map s.events (λ r h. and_left (fields_allowed r) (tail_allowed_wide row_bytes (event_number_in r) (tail_in r)) h) (all_told event_row_allowed s.events parts.events_allowed))

  stood_allowed : all fields_allowed stood ≡ true
  stood_allowed = all_keep fields_allowed (λ k. eqb (case_named siad k) c) s.events before_allowed

  brought_allowed : all fields_allowed rows ≡ true
  brought_allowed =
      each_row c fields_allowed event_readable
      (λ e h. ap (λ (n : ℕ). event_allowed (event_in n)) (event_read c e.event e.evaluation (number_lt e h) (evaluation_lt e h)) ∙ number_allowed e h) es w

  left_allowed : (t : Kind) → all fields_allowed (left t) ≡ true
  left_allowed t =
      all_keep fields_allowed (λ k. eqb (case_named siad k) c) (applied t [] rows (λ k. false) s).events
      (all-events [] rows (λ k. false) s fields_allowed t brought_allowed before_allowed)

-- ---- 25 to 28 of a record: what it brings, unless it cancels

module _ (n : ℕ) (s : State ℕ ℕ) (v : Sound n s) (h : Head) (es : List Said) (r : Readable (events h es)) (once : some_pair (clash 22) (event_numbers es) ≡ false) where
  abbrev case : ℕ
  case = key_number h.key

  abbrev kind : Kind
  kind = type_of h.tipo

  abbrev then : List ℕ
  then = afterwards next h (events h es) s

  abbrev before : List ℕ
  before = map event_number_in (events_of siad case s.events)

  free_before : Clear h.key.taken before
  free_before =
      clear_of h.key.taken before
      (ap (λ (d : ℕ). events_free d before) (sym (taken_read h.key r.0.fits)) ∙ free_any n s (parts_of n s v.is_valid) case)

  pub is25 : (c : Context) → t25 h.key.taken then ≡ (not (is_cancel kind) && any (wrong 25 c h.key.taken) (event_numbers es))
  is25 c = any_after case es r.1 n s v once (λ e. ltb (date_of e) h.key.taken) free_before.no25 kind

  pub is26 : t26 then ≡ (not (is_cancel kind) && fresh (clash 26) (event_numbers es) before)
  is26 = pair_after case es r.1 n s v once (clash 26) mirror26 free_before.no26 kind

  pub is27 : t27 then ≡ (not (is_cancel kind) && fresh (clash 27) (event_numbers es) before)
  is27 = pair_after case es r.1 n s v once (clash 27) mirror27 free_before.no27 kind

  pub is28 : t28 then ≡ (not (is_cancel kind) && fresh (clash 28) (event_numbers es) before)
  is28 =
      as_pair (left case es r.1 n s v kind) (left_allowed case es r.1 n s v kind)
      ∙ pair_after case es r.1 n s v once (clash 28) mirror28
      (sym (as_pair (stood case es r.1 n s v) (stood_allowed case es r.1 n s v)) ∙ free_before.no28) kind
