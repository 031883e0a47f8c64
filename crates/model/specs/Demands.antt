-- What is demanded of a machine that takes a flow's records (RULES.md, 9 What is conserved, 13 What must never happen).
use Rattle.std.specs.Prelude.{ℕ, ◌+◌, ◌<◌, ◌≡◌, ◌↔◌, ◌≢◌, true, false, ◌||◌, eqb, length, get_or, take}
use mathlib.Core.List.{List, [], ◌∷◌, ◌++◌, flat_map}
use Rattle.std.proofs.Math.Option.{none, some}
use Rattle.laws.specs.Lists.{all}
use Rattle.model.specs.Map.{find, has, Once}
use Rattle.model.specs.Checks.{Check, NoneHolds, FirstIs}
use Rattle.model.specs.Machine.{Machine, zeros, others, run, answers}
use Rattle.model.specs.Log.{sum_of, accepted_by, total, run_all, taken_all, Shown, EventStands, of_case, case_sent, event_sent, Undoes, cases_in, cases_out, events_in, events_out, carried, carried_once}
use Rattle.model.specs.Transmission.{is_insert, admitted, standing}
use Rattle.model.specs.Flow.{State, empty, Good, Flow}
use Rattle.model.specs.Anomalies.{t14, t15}

-- K3: "accepted + discarded = records, and accepted is the zeros of the answer list"; X6: "the answer list fixes them"
pub record Counted (ns : List ℕ) (records accepted discarded : ℕ) : Type 0 where
  pub as_many : length ns ≡ records
  pub together : accepted + discarded ≡ records
  pub zeros_are : accepted ≡ zeros ns

-- Demand 2
pub record Demand2 {S R : Type 0} (checks : R → List (Check S)) (m : Machine S R) : Type 0 where
  -- a record is answered 0 exactly when none of its checks holds
  pub accepted : (s : S) (r : R) → m.judge s r ≡ 0 ↔ NoneHolds (checks r) s
  -- and else the number of the first that holds
  pub discarded : (s : S) (r : R) (n : ℕ) → n ≢ 0 → m.judge s r ≡ n ↔ FirstIs (checks r) s n
  -- answer i is record i's, judged against the state that the earlier ones left
  pub each : (s : S) (rs : List R) (d : R) (i : ℕ) → i < length rs → get_or (answers m s rs) i 0 ≡ m.judge (run m s (take i rs)) (get_or rs i d)
  pub counts : (s : S) (rs : List R) → Counted (answers m s rs) (length rs) (length (accepted_by m s rs)) (others (answers m s rs))

-- a discarded record leaves the state as it was, and the accepted ones alone leave what all leave
pub record Discarded {S R : Type 0} (m : Machine S R) : Type 0 where
  pub as_it_was : (s : S) (r : R) → m.judge s r ≢ 0 → run m s (r ∷ []) ≡ s
  pub without : (s : S) (rs : List R) → run m s (accepted_by m s rs) ≡ run m s rs

-- the records of two files in one, or of many: the same answers, the same state
pub record OneOrMany {S R : Type 0} (m : Machine S R) : Type 0 where
  pub state : (s : S) (a b : List R) → run m s (a ++ b) ≡ run m (run m s a) b
  pub answer : (s : S) (a b : List R) → answers m s (a ++ b) ≡ answers m s a ++ answers m (run m s a) b
  pub states : (s : S) (files : List (List R)) → run_all m (λ s a. a) s files ≡ run m s (flat_map (λ a. a) files)
  pub logs : (s : S) (files : List (List R)) → taken_all m (λ s a. a) s files ≡ accepted_by m s (flat_map (λ a. a) files)

-- some key that a record names is one that the table refuses to it, after a log of accepted records
pub data Refused {F E R : Type 0} (f : Flow F E R) (r : R) (log : List R) : Type 0 where
  case : (k : ℕ) → has k (f.case_rows r) ≡ true → admitted (case_sent f k log) (f.kind r) ≡ false → Refused f r log
  event : (k : ℕ) → has k (f.event_rows r) ≡ true → admitted (event_sent f k log) (f.kind r) ≡ false → Refused f r log

module _ {F E R X : Type 0} (f : Flow F E R) (m : Machine (State F E) R) (entries : State F E → X → List R) where
  -- the state that a history leaves, from an empty one, and the records that it accepted
  abbrev pub after : List X → State F E
  after xs = run_all m entries empty xs

  abbrev pub log : List X → List R
  log xs = taken_all m entries empty xs

  -- Demand 3
  pub record Demand3 {B : Type 0} (encode : State F E → B) : Type 0 where
    -- K6: a case or an event stands exactly when "the last accepted record with its key inserts or varies it and, of an event, no accepted cancellation of its
    -- case came later; it shows that record's fields"
    pub case_stands : (xs : List X) (k : ℕ) (v : F) →
        find k (after xs).cases ≡ some v ↔ Shown f.kind (λ r. find k (f.case_rows r)) (of_case f k) (log xs) v
    pub event_stands : (xs : List X) (k : ℕ) (v : E) → find k (after xs).events ≡ some v ↔ EventStands f k (log xs) v
    -- in ascending order, each key once
    pub ascending : (xs : List X) → Good (after xs)
    pub cases_once : (xs : List X) → Once (after xs).cases
    pub events_once : (xs : List X) → Once (after xs).events
    -- the same things standing, the same bytes
    pub same_bytes : (xs ys : List X) →
        ((k : ℕ) → find k (after xs).cases ≡ find k (after ys).cases) →
        ((k : ℕ) → find k (after xs).events ≡ find k (after ys).events) →
        encode (after xs) ≡ encode (after ys)
    -- an accepted insertion, followed at once by the accepted cancellation of exactly its keys, leaves the bytes that are left without the two
    pub undone : (xs ys : List X) (p q : List R) (a b : R) → log xs ≡ p ++ a ∷ b ∷ q → log ys ≡ p ++ q → Undoes f a b →
        ((k : ℕ) → f.away b k ≡ true → find k (run m empty p).events ≡ none) →
        encode (after xs) ≡ encode (after ys)

  -- FAR 6.3, section 4.3, and J7, over any history
  pub record Sequences : Type 0 where
    -- a key stands exactly when it was sent and not annulled since
    pub case_stands : (xs : List X) (k : ℕ) → has k (after xs).cases ≡ standing (case_sent f k (log xs))
    pub event_stands : (xs : List X) (k : ℕ) → has k (after xs).events ≡ standing (event_sent f k (log xs))
    -- 14 and 15 are exactly the table's refusals: 14 of an insertion, 15 of any other
    pub refusals : (xs : List X) (r : R) → t14 f r (after xs) || t15 f r (after xs) ≡ true ↔ Refused f r (log xs)
    pub are14 : (xs : List X) (r : R) → t14 f r (after xs) ≡ true ↔ (is_insert (f.kind r) ≡ true) × Refused f r (log xs)
    pub are15 : (xs : List X) (r : R) → t15 f r (after xs) ≡ true ↔ (is_insert (f.kind r) ≡ false) × Refused f r (log xs)
    -- no accepted record is one that the table refuses after the accepted ones before it
    pub by_table : (xs : List X) (a : List R) (r : R) (b : List R) → log xs ≡ a ++ r ∷ b → Refused f r a → ⊥

-- a file of one track: none of its records has events' rows, or none has cases' rows
pub data OneTrack {F E R : Type 0} (f : Flow F E R) (rs : List R) : Type 0 where
  cases_only : all (λ r. eqb (length (f.event_rows r)) 0) rs ≡ true → OneTrack f rs
  events_only : all (λ r. eqb (length (f.case_rows r)) 0) rs ≡ true → OneTrack f rs

-- K1 and K2, of each file: "cases after = cases before + accepted insertions of Track 1 - its accepted cancellations", events likewise
pub record Conserved {F E R : Type 0} (f : Flow F E R) (m : Machine (State F E) R) (s : State F E) (rs : List R) : Type 0 where
  pub cases : length (run m s rs).cases + sum_of (cases_out f) (accepted_by m s rs) ≡ length s.cases + sum_of (cases_in f) (accepted_by m s rs)
  -- those carried away counted record by record, of the state that each met
  pub events : length (run m s rs).events + total m (λ s r. events_out f r + carried f s r) s rs ≡
      length s.events + sum_of (events_in f) (accepted_by m s rs)
  -- and, where a cancellation takes along the events of the cases that it names, once for each case, of the state before the file
  pub once : (own : ℕ → ℕ) → ((r : R) (k : ℕ) → f.away r k ≡ has (own k) (f.case_rows r)) → OneTrack f rs →
      length (run m s rs).events + (sum_of (events_out f) (accepted_by m s rs) + carried_once f own s.events (accepted_by m s rs)) ≡
      length s.events + sum_of (events_in f) (accepted_by m s rs)
