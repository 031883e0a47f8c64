-- The home-care flow has the anomalies 14, 15 and 22, so what is demanded of any flow holds of it.
use Prim.Native.Nat.{ℕ}
use mathlib.Core.Path.{◌≡◌, refl}
use mathlib.Core.Logic.{◌≢◌}
use mathlib.Core.Bool.{Bool, true, false, cond}
use mathlib.Core.List.{List}
use mathlib.Core.Option.{none, some}
use native.Mathlib.Omega.{arith}
use lib.Dec.{eqb}
use Rattle.laws.specs.Lists.{all, any}
use Rattle.model.proofs.ChecksLaws.{clear, only}
use Rattle.model.proofs.Demands.{flow_demand2, demand3, conserved, discarded, one_or_many}
use Rattle.model.proofs.TransmissionLaws.{sequences}
use Rattle.model.specs.Map.{is_some, find, has, twice}
use Rattle.model.specs.Checks.{first}
use Rattle.model.specs.Checks as model
use Rattle.model.specs.Flow.{State, Good, machine}
use Rattle.model.specs.Anomalies.{t14, t15, t17, t22}
use Rattle.model.specs.Log.{Lawful}
use Rattle.model.specs.Demands.{Demand2, Demand3, Discarded, OneOrMany, Sequences, Conserved}
use Rattle.register.specs.Layout.{case_named}
use Rattle.home_care.specs.Row.{key_number, siad}
use Rattle.home_care.specs.Record.{Record, admission, events}
use Rattle.home_care.specs.Anomalies.{Context}
use Rattle.checks.specs.Flow.{case_row, flow}
use Rattle.checks.specs.CheckOrder.{checks_of, siad_machine}

-- a cancellation takes along the events of the case whose row it names
pub along : (r : Record) (k : ℕ) → flow.away r k ≡ has (case_named siad k) (flow.case_rows r)
unfolding find
along (admission h a) k = one (eqb (case_named siad k) (key_number h.key))
  where
    one : (b : Bool) → b ≡ is_some (cond b (some (case_row h.key a.case).val) none)
    one true = refl
    one false = refl
along (events h es) k = refl

module _ (c : Context) where
  -- no check has the number 0, which means accepted
  pub numbered : (r : Record) → model.numbered (checks_of c r) ≡ true
  unfolding all
  numbered (admission h a) = refl
  numbered (events h es) = refl

  no14 : (s : State ℕ ℕ) (r : Record) → first (checks_of c r) s ≡ 0 → t14 flow r s ≡ false
  no14 s (admission h a) e = clear 14 (checks_of c (admission h a)) s (numbered (admission h a)) e
  no14 s (events h es) e = clear 14 (checks_of c (events h es)) s (numbered (events h es)) e

  no15 : (s : State ℕ ℕ) (r : Record) → first (checks_of c r) s ≡ 0 → t15 flow r s ≡ false
  no15 s (admission h a) e = clear 15 (checks_of c (admission h a)) s (numbered (admission h a)) e
  no15 s (events h es) e = clear 15 (checks_of c (events h es)) s (numbered (events h es)) e

  -- a record of Track 1 has one row
  no22 : (s : State ℕ ℕ) (r : Record) → first (checks_of c r) s ≡ 0 → t22 flow r ≡ false
  unfolding twice find
  no22 s (admission h a) e = refl
  no22 s (events h es) e = clear 22 (checks_of c (events h es)) s (numbered (events h es)) e

  pub lawful : Lawful flow (checks_of c)
  lawful = record { not14 = no14; not15 = no15; not22 = no22 }

  pub not17 : (s : State ℕ ℕ) (r : Record) → first (checks_of c r) s ≡ 0 → t17 flow c.room r s ≡ false
  not17 s (admission h a) e = clear 17 (checks_of c (admission h a)) s (numbered (admission h a)) e
  not17 s (events h es) e = clear 17 (checks_of c (events h es)) s (numbered (events h es)) e

  -- J2: no record's answer is 16
  pub never_16 : (s : State ℕ ℕ) (r : Record) → (siad_machine c).judge s r ≢ 16
  unfolding machine any
  never_16 s (admission h a) = only 16 (checks_of c (admission h a)) s (λ z. omega arith) refl
  never_16 s (events h es) = only 16 (checks_of c (events h es)) s (λ z. omega arith) refl

  -- J1: "0 is acceptance": a record is answered 0 exactly when none of its track's anomalies holds, else the first that holds
  pub siad_demand2 : Demand2 (checks_of c) (siad_machine c)
  siad_demand2 = flow_demand2 flow (checks_of c) numbered

  -- a discarded record leaves what stands as it was
  pub siad_discarded : Discarded (siad_machine c)
  siad_discarded = discarded (siad_machine c)

  -- the records of one file or of many (for E12)
  pub siad_one_or_many : OneOrMany (siad_machine c)
  siad_one_or_many = one_or_many (siad_machine c)

  -- K1 and K2, of each file
  pub siad_conserved : (s : State ℕ ℕ) (rs : List Record) → Good s → Conserved flow (siad_machine c) s rs
  siad_conserved s rs g = conserved flow (checks_of c) lawful s rs g

  module _ {X : Type 0} (entries : State ℕ ℕ → X → List Record) where
    -- what stands after any history, in one quarter
    pub siad_demand3 : {B : Type 0} (encode : State ℕ ℕ → B) → Demand3 flow (siad_machine c) entries encode
    siad_demand3 encode = demand3 flow (checks_of c) lawful entries encode

    -- FAR 6.3, section 4.3, and J7: 14 and 15 are exactly the table's refusals
    pub siad_sequences : Sequences flow (siad_machine c) entries
    siad_sequences = sequences flow (checks_of c) lawful entries
