-- The table of transmission sequences: 14 and 15 are its refusals, and every history's accepted records go by it.
use Prim.Native.Nat.{ℕ}
use mathlib.Core.Path.{◌≡◌, refl, sym, ap, ◌∙◌}
use mathlib.Core.Logic.{◌↔◌}
use mathlib.Core.Bool.{Bool, true, false, cond, not, ◌&&◌, ◌||◌, true≢false, false≢true}
use mathlib.Core.List.{List, ◌∷◌, ◌++◌}
use mathlib.Core.Option.{Option, none, some}
use borrow.Author.Tests.{not-true}
use Rattle.laws.specs.Lists.{any}
use Rattle.model.proofs.MapLaws.{find_nil, any-key, key-any}
use Rattle.model.proofs.Lists.{not_and, not-all, any_same, last_passes}
use Rattle.model.proofs.Histories.{resolve, run_look, AllTaken, all_front, all_at, all_same, taken_all_all, log_run}
use Rattle.model.proofs.FlowHistories.{case_law, event_law}
use Rattle.model.specs.Map.{Map, is_some, find, has, any_in, all_in, last_of}
use Rattle.model.specs.Checks.{Check}
use Rattle.model.specs.Machine.{Machine, run}
use Rattle.model.specs.Log.{shown, sent, of_case, of_event, case_shown, event_shown, case_sent, event_sent, Lawful}
use Rattle.model.specs.Transmission.{Kind, insert, vary, cancel, is_insert, is_cancel, Sent, nothing, last, admitted, standing}
use Rattle.model.specs.Flow.{State, empty, Flow, machine}
use Rattle.model.specs.Anomalies.{t14, t15}
use Rattle.model.specs.Demands.{Refused, case, event, Sequences, after, log}

-- the twelve entries in one line: an insertion of what does not stand, any other of what does
pub table : (u : Sent) (t : Kind) → admitted u t ≡ cond (is_insert t) (not (standing u)) (standing u)
table nothing insert = refl
table nothing vary = refl
table nothing cancel = refl
table (last insert) insert = refl
table (last insert) vary = refl
table (last insert) cancel = refl
table (last vary) insert = refl
table (last vary) vary = refl
table (last vary) cancel = refl
table (last cancel) insert = refl
table (last cancel) vary = refl
table (last cancel) cancel = refl

-- ---- a map's keys, against what was last sent of each

not-not : (b : Bool) → b ≡ not (not b)
not-not true = refl
not-not false = refl

module _ {F : Type 0} (sent_of : ℕ → Sent) (t : Kind) (rows : Map F) where
  -- the table refuses some key of the rows
  abbrev refuses : Bool
  refuses = any (λ x. not (admitted (sent_of x.key) t)) rows

  module _ (m : Map F) (stands : (k : ℕ) → has k m ≡ standing (sent_of k)) where
    refuses_insert : is_insert t ≡ true → any_in rows m ≡ refuses
    unfolding any_in
    refuses_insert e =
        any_same (λ x. has x.key m) (λ x. not (admitted (sent_of x.key) t)) rows
        (λ x. simp (table (sent_of x.key) t, e) (stands x.key ∙ not-not (standing (sent_of x.key))))

    refuses_other : is_insert t ≡ false → not (all_in rows m) ≡ refuses
    unfolding all_in
    refuses_other e =
        not-all (λ x. has x.key m) rows ∙
        any_same (λ x. not (has x.key m)) (λ x. not (admitted (sent_of x.key) t)) rows
        (λ x. simp (table (sent_of x.key) t, e) (ap not (stands x.key)))

-- ---- 14 and 15 of a record, against a log of accepted records

or-false : (b : Bool) → b || false ≡ b
or-false true = refl
or-false false = refl

or_cases : {P : Type 0} (a b : Bool) → (a ≡ true → P) → (b ≡ true → P) → a || b ≡ true → P
or_cases true b f g e = f refl
or_cases false b f g e = g e

or_first : (a b : Bool) → a ≡ true → a || b ≡ true
or_first true b e = refl
or_first false b e = absurd (false≢true e)

or_second : (a b : Bool) → b ≡ true → a || b ≡ true
or_second true b e = refl
or_second false b e = e

-- of two tests, one for an insertion and one for any other
only_first : (i x y : Bool) → i && x ≡ true ↔ (i ≡ true) × ((i && x) || (not i && y) ≡ true)
only_first true x y = (λ e. (refl, or_first x false e), λ h. sym (or-false x) ∙ h.1)
only_first false x y = (λ e. absurd (false≢true e), λ h. h.0)

only_second : (i x y : Bool) → not i && y ≡ true ↔ (i ≡ false) × ((i && x) || (not i && y) ≡ true)
only_second true x y = (λ e. absurd (false≢true e), λ h. absurd (true≢false h.0))
only_second false x y = (λ e. (refl, e), λ h. h.1)

-- an equivalence, with its second half said another way
and_other : {A P B Q : Type 0} → A ↔ P × B → B ↔ Q → A ↔ P × Q
and_other o e = (λ a. let p = o.0 a in (p.0, e.0 p.1), λ h. o.1 (h.0, e.1 h.1))

module _ {F E R : Type 0} (f : Flow F E R) (s : State F E) (l : List R)
    (cases : (k : ℕ) → has k s.cases ≡ standing (case_sent f k l))
    (events : (k : ℕ) → has k s.events ≡ standing (event_sent f k l)) (r : R) where
  -- what 14 and 15 ask of the record's keys
  abbrev some_stands : Bool
  some_stands = any_in (f.case_rows r) s.cases || any_in (f.event_rows r) s.events

  abbrev some_missing : Bool
  some_missing = not (all_in (f.case_rows r) s.cases && all_in (f.event_rows r) s.events)

  -- the table refuses a case key, an event key of the record
  abbrev case_refused : Bool
  case_refused = refuses (λ k. case_sent f k l) (f.kind r) (f.case_rows r)

  abbrev event_refused : Bool
  event_refused = refuses (λ k. event_sent f k l) (f.kind r) (f.event_rows r)

  tests : t14 f r s || t15 f r s ≡ case_refused || event_refused
  tests = go (is_insert (f.kind r)) refl
    where
      go : (i : Bool) → is_insert (f.kind r) ≡ i → (i && some_stands) || (not i && some_missing) ≡ case_refused || event_refused
      go true e =
          let c = refuses_insert (λ k. case_sent f k l) (f.kind r) (f.case_rows r) s.cases cases e in
          let v = refuses_insert (λ k. event_sent f k l) (f.kind r) (f.event_rows r) s.events events e in
          or-false some_stands ∙ cc
      go false e =
          let c = refuses_other (λ k. case_sent f k l) (f.kind r) (f.case_rows r) s.cases cases e in
          let v = refuses_other (λ k. event_sent f k l) (f.kind r) (f.event_rows r) s.events events e in
          not_and (all_in (f.case_rows r) s.cases) (all_in (f.event_rows r) s.events) ∙ cc

  pub refusals : t14 f r s || t15 f r s ≡ true ↔ Refused f r l
  refusals = (λ e. or_cases case_refused event_refused in_case in_event (sym tests ∙ e), λ h. tests ∙ back h)
    where
      in_case : case_refused ≡ true → Refused f r l
      in_case e =
          let k = any-key (λ k. not (admitted (case_sent f k l) (f.kind r))) (f.case_rows r) e in
          case k.0 k.1 (not-true (admitted (case_sent f k.0 l) (f.kind r)) k.2)

      in_event : event_refused ≡ true → Refused f r l
      in_event e =
          let k = any-key (λ k. not (admitted (event_sent f k l) (f.kind r))) (f.event_rows r) e in
          event k.0 k.1 (not-true (admitted (event_sent f k.0 l) (f.kind r)) k.2)

      back : Refused f r l → case_refused || event_refused ≡ true
      back (case k h e) =
          or_first case_refused event_refused (key-any (λ k. not (admitted (case_sent f k l) (f.kind r))) (f.case_rows r) k h (ap not e))
      back (event k h e) =
          or_second case_refused event_refused (key-any (λ k. not (admitted (event_sent f k l) (f.kind r))) (f.event_rows r) k h (ap not e))

  pub are14 : t14 f r s ≡ true ↔ (is_insert (f.kind r) ≡ true) × Refused f r l
  are14 = and_other (only_first (is_insert (f.kind r)) some_stands some_missing) refusals

  pub are15 : t15 f r s ≡ true ↔ (is_insert (f.kind r) ≡ false) × Refused f r l
  are15 = and_other (only_second (is_insert (f.kind r)) some_stands some_missing) refusals

-- ---- a log of accepted records: what stands is what it last sent

module _ {F R : Type 0} (kind : R → Kind) (row_of : R → Option F) (speaks : R → Bool)
    (carries : (r : R) → speaks r ≡ true → is_cancel (kind r) ≡ false → is_some (row_of r) ≡ true) where
  stands_shown : (t : Kind) (o : Option F) → (is_cancel t ≡ false → is_some o ≡ true) → is_some (shown t o) ≡ standing (last t)
  stands_shown insert o h = h refl
  stands_shown vary o h = h refl
  stands_shown cancel o h = refl

  stands_sent : (l : List R) → is_some (resolve (λ r. shown (kind r) (row_of r)) (last_of speaks l) none) ≡ standing (sent kind (last_of speaks l))
  stands_sent l = go (last_of speaks l) refl
    where
      go : (o : Option R) → last_of speaks l ≡ o → is_some (resolve (λ r. shown (kind r) (row_of r)) o none) ≡ standing (sent kind o)
      go none e = refl
      go (some r) e = stands_shown (kind r) (row_of r) (carries r (last_passes speaks l r e))

module _ {F E R : Type 0} (f : Flow F E R) (checks : R → List (Check (State F E))) where
  named : (r : R) (k : ℕ) → of_event f k r ≡ true → is_cancel (f.kind r) ≡ false → has k (f.event_rows r) ≡ true
  named r k e c = sym (or-false (has k (f.event_rows r))) ∙ (simp c at e)

  module _ (l : List R) (h : AllTaken (machine f checks) empty l) (k : ℕ) where
    pub case_sent_lem : has k (run (machine f checks) empty l).cases ≡ standing (case_sent f k l)
    case_sent_lem =
        let e : find k (run (machine f checks) empty l).cases ≡ resolve (case_shown f k) (last_of (of_case f k) l) none
        = run_look (machine f checks) (λ s. find k s.cases) (of_case f k) (case_shown f k) (case_law f checks k) empty l ∙
        simp (← find_nil {F = F} k, all_same (machine f checks) empty l h) in
        ap is_some e ∙ stands_sent f.kind (λ r. find k (f.case_rows r)) (of_case f k) (λ r p c. p) l

    pub event_sent_lem : has k (run (machine f checks) empty l).events ≡ standing (event_sent f k l)
    event_sent_lem =
        let e : find k (run (machine f checks) empty l).events ≡ resolve (event_shown f k) (last_of (of_event f k) l) none
        = run_look (machine f checks) (λ s. find k s.events) (of_event f k) (event_shown f k) (event_law f checks k) empty l ∙
        simp (← find_nil {F = E} k, all_same (machine f checks) empty l h) in
        ap is_some e ∙ stands_sent f.kind (λ r. find k (f.event_rows r)) (of_event f k) (λ r p c. named r k p c) l

  -- no accepted record is one that the table refuses
  pub by_table : Lawful f checks → (l a : List R) (r : R) (b : List R) → AllTaken (machine f checks) empty l → l ≡ a ++ r ∷ b → Refused f r a → ⊥
  unfolding machine
  by_table w l a r b h e d =
      let g : AllTaken (machine f checks) empty (a ++ r ∷ b) = rw e at h in
      let j = all_at (machine f checks) empty a r b g in
      let fa = all_front (machine f checks) empty a (r ∷ b) g in
      let s : State F E = run (machine f checks) empty a in
      let t : t14 f r s || t15 f r s ≡ true = (refusals f s a (case_sent_lem a fa) (event_sent_lem a fa) r).1 d in
      or_cases (t14 f r s) (t15 f r s)
      (λ p. true≢false (sym p ∙ w.not14 s r j))
      (λ p. true≢false (sym p ∙ w.not15 s r j))
      t

module _ {F E R X : Type 0} (f : Flow F E R) (checks : R → List (Check (State F E))) (w : Lawful f checks) (entries : State F E → X → List R) where
  abbrev m : Machine (State F E) R
  m = machine f checks

  case_stands : (xs : List X) (k : ℕ) → has k (after f m entries xs).cases ≡ standing (case_sent f k (log f m entries xs))
  case_stands xs k = rw (← log_run m entries empty xs) (case_sent_lem f checks (log f m entries xs) (taken_all_all m entries empty xs) k)

  event_stands : (xs : List X) (k : ℕ) → has k (after f m entries xs).events ≡ standing (event_sent f k (log f m entries xs))
  event_stands xs k = rw (← log_run m entries empty xs) (event_sent_lem f checks (log f m entries xs) (taken_all_all m entries empty xs) k)

  pub sequences : Sequences f m entries
  sequences =
      record {
        case_stands = case_stands;
        event_stands = event_stands;
        refusals = λ xs r. refusals f (after f m entries xs) (log f m entries xs) (case_stands xs) (event_stands xs) r;
        are14 = λ xs r. are14 f (after f m entries xs) (log f m entries xs) (case_stands xs) (event_stands xs) r;
        are15 = λ xs r. are15 f (after f m entries xs) (log f m entries xs) (case_stands xs) (event_stands xs) r;
        by_table = λ xs a r b e d. by_table f checks w (log f m entries xs) a r b (taken_all_all m entries empty xs) e d;
      }
