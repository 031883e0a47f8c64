-- The demands, proved of every lawful flow.
use Prim.Native.Nat.{ℕ}
use mathlib.Core.Path.{◌≡◌, sym, ap, ◌∙◌}
use mathlib.Core.Logic.{◌↔◌}
use mathlib.Core.Bool.{true}
use mathlib.Core.List.{List}
use native.Mathlib.Omega.{arith}
use Rattle.model.proofs.MapPlace.{asc_once}
use Rattle.model.proofs.ChecksLaws.{accepted_iff, refused_iff}
use Rattle.model.proofs.MachineLaws.{run_append, answers_append, answers_each, answers-length, taken_zeros, records, step_left}
use Rattle.model.proofs.Histories.{taken_run, files-run, files_taken}
use Rattle.model.proofs.FlowHistories as flow
use Rattle.model.proofs.Carried.{once, in_words}
use Rattle.model.specs.Checks.{Check, first, numbered}
use Rattle.model.specs.Machine.{Machine, run}
use Rattle.model.specs.Flow.{State, Good, Flow, machine}
use Rattle.model.specs.Log.{Lawful}
use Rattle.model.specs.Demands.{Counted, Demand2, Discarded, OneOrMany, Demand3, Conserved, after, log}

both : {A B C : Type 0} → A ↔ B → B ↔ C → A ↔ C
both f g = (λ a. g.0 (f.0 a), λ c. f.1 (g.1 c))

-- a list of answers has one count of each
pub counted_once : {ns : List ℕ} {r a d r' a' d' : ℕ} → Counted ns r a d → Counted ns r' a' d' → (r ≡ r') × (a ≡ a') × (d ≡ d')
counted_once c e = (sym c.as_many ∙ e.as_many, c.zeros_are ∙ sym e.zeros_are, omega arith)

-- any machine that answers the first check that holds
module _ {S R : Type 0} (checks : R → List (Check S)) (act : S → R → S) (well : (r : R) → numbered (checks r) ≡ true) where
  pub demand2 : Demand2 checks (record { judge = λ s r. first (checks r) s; act = act })
  demand2 =
      record {
        accepted = λ s r. accepted_iff (checks r) s (well r);
        discarded = λ s r n z. refused_iff (checks r) s n z;
        each = answers_each _;
        counts = λ s rs. record { as_many = answers-length _ s rs; together = records _ s rs; zeros_are = taken_zeros _ s rs };
      }

module _ {S R : Type 0} (m : Machine S R) where
  pub discarded : Discarded m
  unfolding run
  discarded = record { as_it_was = step_left m; without = taken_run m }

  pub one_or_many : OneOrMany m
  one_or_many = record { state = run_append m; answer = answers_append m; states = files-run m; logs = files_taken m }

module _ {F E R : Type 0} (f : Flow F E R) (checks : R → List (Check (State F E))) where
  pub flow_demand2 : ((r : R) → numbered (checks r) ≡ true) → Demand2 checks (machine f checks)
  unfolding machine
  flow_demand2 well = demand2 checks (machine f checks).act well

module _ {F E R X B : Type 0} (f : Flow F E R) (checks : R → List (Check (State F E))) (w : Lawful f checks)
    (entries : State F E → X → List R) (encode : State F E → B) where
  pub demand3 : Demand3 f (machine f checks) entries encode
  demand3 =
      record {
        case_stands = flow.case_stands f checks entries;
        event_stands = λ xs k v. both (flow.event_stands f checks entries xs k v) (in_words f k (log f (machine f checks) entries xs) v);
        ascending = flow.ascending f checks entries;
        cases_once = λ xs. asc_once 0 (after f (machine f checks) entries xs).cases (flow.ascending f checks entries xs).0;
        events_once = λ xs. asc_once 0 (after f (machine f checks) entries xs).events (flow.ascending f checks entries xs).1;
        same_bytes = λ xs ys c e. ap encode (flow.canonical f checks entries xs ys c e);
        undone = λ xs ys p q a b with without u clean. ap encode (flow.undone_within f checks entries w xs ys p q a b with without u clean);
      }

module _ {F E R : Type 0} (f : Flow F E R) (checks : R → List (Check (State F E))) (w : Lawful f checks) where
  pub conserved : (s : State F E) (rs : List R) → Good s → Conserved f (machine f checks) s rs
  conserved s rs g =
      record {
        cases = flow.cases_conserved f checks w s g rs;
        events = flow.events_conserved f checks w s g rs;
        once = once f checks w s g rs;
      }
