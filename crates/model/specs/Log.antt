-- What the demands say of the records that were accepted, one after the other (RULES.md, 9 What is conserved): the last that speaks of a
-- key, what it shows, what is inserted and what is cancelled.
use Rattle.std.specs.Prelude.{ℕ, ◌+◌, ◌≡◌, Bool, true, false, cond, ◌&&◌, ◌||◌, eqb, length}
use mathlib.Core.List.{List, [], ◌∷◌, ◌++◌, map, flat_map}
use Rattle.std.proofs.Math.Option.{Option, none, some}
use Rattle.laws.specs.Lists.{any}
use Rattle.model.specs.Map.{Map, last_of, find, has, keep, del_all}
use Rattle.model.specs.Checks.{Check, first}
use Rattle.model.specs.Machine.{Machine, accepts, step, run}
use Rattle.model.specs.Transmission.{Kind, insert, vary, cancel, is_insert, is_cancel, Sent, nothing, last}
use Rattle.model.specs.Flow.{State, Flow}
use Rattle.model.specs.Anomalies.{t14, t15, t22}

-- r is the last element of l that passes the test: it does, and none after it
pub record LastIs {R : Type 0} (p : R → Bool) (l : List R) (r : R) : Type 0 where
  pub before : List R
  pub after : List R
  pub list : l ≡ before ++ r ∷ after
  pub passes : p r ≡ true
  pub none_after : any p after ≡ false

-- the sum of a number of each element
unfoldable pub sum_of : {R : Type 0} → (R → ℕ) → List R → ℕ
sum_of g [] = 0
sum_of g (r ∷ rs) = g r + sum_of g rs

-- each number of a list once
unfoldable pub distinct : List ℕ → List ℕ
distinct [] = []
distinct (c ∷ cs) = cond (any (eqb c) cs) (distinct cs) (c ∷ distinct cs)

-- J1: "0 is acceptance": of a file's records, in their order, those whose byte in an answer list is 0
unfoldable pub at_zeros : {R : Type 0} → List ℕ → List R → List R
at_zeros ns [] = []
at_zeros [] (r ∷ rs) = []
at_zeros (n ∷ ns) (r ∷ rs) = cond (eqb n 0) (r ∷ at_zeros ns rs) (at_zeros ns rs)

module _ {S R : Type 0} (m : Machine S R) where
  -- the accepted ones
  unfoldable pub accepted_by : S → List R → List R
  accepted_by s [] = []
  accepted_by s (r ∷ rs) = cond (accepts m s r) (r ∷ accepted_by (step m s r) rs) (accepted_by (step m s r) rs)

  -- a number of each accepted record and of the state that it met, summed
  unfoldable pub total : (S → R → ℕ) → S → List R → ℕ
  total g s [] = 0
  total g s (r ∷ rs) = cond (accepts m s r) (g s r) 0 + total g (step m s r) rs

  -- a history of submissions: `entries s x` are the records of x in the order in which they are applied, none where x is refused
  module _ {X : Type 0} (entries : S → X → List R) where
    unfoldable pub run_all : S → List X → S
    run_all s [] = s
    run_all s (x ∷ xs) = run_all (run m s (entries s x)) xs

    unfoldable pub taken_all : S → List X → List R
    taken_all s [] = []
    taken_all s (x ∷ xs) = accepted_by s (entries s x) ++ taken_all (run m s (entries s x)) xs

-- one call after the other, on what the register's bytes are
unfoldable pub calls : {B X : Type 0} → (B → X → B) → B → List X → B
calls call b [] = b
calls call b (x ∷ xs) = calls call (call b x) xs

-- of the fields that a record carries, those that it shows afterwards
abbrev pub shown : {F : Type 0} → Kind → Option F → Option F
shown insert o = o
shown vary o = o
shown cancel o = none

-- the log's last record to speak of a key inserts or varies it, and carries the fields v
pub record Shown {F R : Type 0} (kind : R → Kind) (row_of : R → Option F) (speaks : R → Bool) (log : List R) (v : F) : Type 0 where
  pub by : R
  pub is_last : LastIs speaks log by
  pub keeps : is_cancel (kind by) ≡ false
  pub carries : row_of by ≡ some v

-- the row of the table that a log's last record puts a key into
abbrev pub sent : {R : Type 0} → (R → Kind) → Option R → Sent
sent kind none = nothing
sent kind (some r) = last (kind r)

module _ {F E R : Type 0} (f : Flow F E R) where
  -- W3: "and one of Track 1 all events of its case": an accepted record takes the event k along
  abbrev pub carries_away : ℕ → R → Bool
  carries_away k r = is_cancel (f.kind r) && f.away r k

  -- an accepted record speaks of the case k, of the event k
  abbrev pub of_case : ℕ → R → Bool
  of_case k r = has k (f.case_rows r)

  abbrev pub of_event : ℕ → R → Bool
  of_event k r = has k (f.event_rows r) || carries_away k r

  -- K6: "the last accepted record with its key inserts or varies it and, of an event, no accepted cancellation of its case came later"
  pub record EventStands (k : ℕ) (log : List R) (v : E) : Type 0 where
    pub shown : Shown f.kind (λ r. find k (f.event_rows r)) (λ r. has k (f.event_rows r)) log v
    pub none_later : any (carries_away k) shown.is_last.after ≡ false

  -- what it then shows
  abbrev pub case_shown : ℕ → R → Option F
  case_shown k r = shown (f.kind r) (find k (f.case_rows r))

  abbrev pub event_shown : ℕ → R → Option E
  event_shown k r = shown (f.kind r) (find k (f.event_rows r))

  -- what a log of accepted records last sent of the case k, of the event k
  abbrev pub case_sent : ℕ → List R → Sent
  case_sent k log = sent f.kind (last_of (of_case k) log)

  abbrev pub event_sent : ℕ → List R → Sent
  event_sent k log = sent f.kind (last_of (of_event k) log)

  -- checks that leave none of 14, 15 and 22 to an accepted record
  pub record Lawful (checks : R → List (Check (State F E))) : Type 0 where
    pub not14 : (s : State F E) (r : R) → first (checks r) s ≡ 0 → t14 f r s ≡ false
    pub not15 : (s : State F E) (r : R) → first (checks r) s ≡ 0 → t15 f r s ≡ false
    pub not22 : (s : State F E) (r : R) → first (checks r) s ≡ 0 → t22 f r ≡ false

  -- a inserts, and b cancels exactly its keys
  pub record Undoes (a b : R) : Type 0 where
    pub inserts : f.kind a ≡ insert
    pub cancels : f.kind b ≡ cancel
    pub cases : (k : ℕ) → has k (f.case_rows b) ≡ has k (f.case_rows a)
    pub events : (k : ℕ) → has k (f.event_rows b) ≡ has k (f.event_rows a)

  -- K1: "accepted insertions of Track 1", "its accepted cancellations"; K2: "the event keys of accepted insertions of Track 2"
  abbrev pub cases_in : R → ℕ
  cases_in r = cond (is_insert (f.kind r)) (length (f.case_rows r)) 0

  abbrev pub cases_out : R → ℕ
  cases_out r = cond (is_cancel (f.kind r)) (length (f.case_rows r)) 0

  abbrev pub events_in : R → ℕ
  events_in r = cond (is_insert (f.kind r)) (length (f.event_rows r)) 0

  abbrev pub events_out : R → ℕ
  events_out r = cond (is_cancel (f.kind r)) (length (f.event_rows r)) 0

  -- the cases that it cancels
  abbrev pub cases_cancelled : R → List ℕ
  cases_cancelled r = cond (is_cancel (f.kind r)) (map (λ x. x.key) (f.case_rows r)) []

  -- K2: "those carried away, counted once for each case that is cancelled, from the register before the call": `own k` is the case of the event k
  abbrev pub carried_once : (ℕ → ℕ) → Map E → List R → ℕ
  carried_once own before log = sum_of (λ c. length (keep (λ k. eqb (own k) c) before)) (distinct (flat_map cases_cancelled log))

  -- the events that a cancellation carries away, of the state that it meets
  abbrev pub carried : State F E → R → ℕ
  carried s r = cond (is_cancel (f.kind r)) (length (keep (f.away r) (del_all (f.event_rows r) s.events))) 0
