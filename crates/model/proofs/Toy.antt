-- A small flow, one case a record, for which the demands are met, and a history of it computed.
use Prim.Native.Nat.{ℕ}
use mathlib.Core.Path.{◌≡◌, refl}
use mathlib.Core.Bool.{true, false, false≢true}
use mathlib.Core.List.{List, [], ◌∷◌}
use Rattle.laws.specs.Lists.{all, any}
use Rattle.model.proofs.ChecksLaws.{clear}
use Rattle.model.proofs.Demands.{flow_demand2, demand3}
use Rattle.model.proofs.TransmissionLaws.{sequences}
use Rattle.model.specs.Map.{Row, find, put, keep, put_all, del_all, any_in, all_in, twice}
use Rattle.model.specs.Checks.{Check, check, first, numbered}
use Rattle.model.specs.Machine.{run, answers}
use Rattle.model.specs.Transmission.{Kind, insert, vary, cancel}
use Rattle.model.specs.Flow.{State, empty, Flow, machine}
use Rattle.model.specs.Anomalies.{t14, t15, t22}
use Rattle.model.specs.Log.{Lawful, accepted_by, taken_all}
use Rattle.model.specs.Demands.{Demand2, Demand3, Sequences, after}

pub record Said : Type 0 where
  pub kind : Kind
  pub key : ℕ
  pub fields : ℕ

abbrev pub say : Kind → ℕ → ℕ → Said
say t k v = record { kind = t; key = k; fields = v }

abbrev pub row : ℕ → ℕ → Row ℕ
row k v = record { key = k; val = v }

abbrev pub toy : Flow ℕ ℕ Said
toy = record { kind = λ r. r.kind; case_rows = λ r. row r.key r.fields ∷ []; event_rows = λ r. []; away = λ r k. false }

abbrev pub checks : Said → List (Check (State ℕ ℕ))
checks r = check 14 (t14 toy r) ∷ check 15 (t15 toy r) ∷ []

well : (r : Said) → numbered (checks r) ≡ true
unfolding all
well r = refl

no22 : (s : State ℕ ℕ) (r : Said) → first (checks r) s ≡ 0 → t22 toy r ≡ false
unfolding twice find
no22 s r e = refl

pub lawful : Lawful toy checks
lawful =
    record {
      not14 = λ s r e. clear 14 (checks r) s (well r) e;
      not15 = λ s r e. clear 15 (checks r) s (well r) e;
      not22 = no22;
    }

-- a history is a list of files, a file a list of records
abbrev pub files : State ℕ ℕ → List Said → List Said
files s a = a

pub toy_demand2 : Demand2 checks (machine toy checks)
toy_demand2 = flow_demand2 toy checks well

pub toy_demand3 : {B : Type 0} (encode : State ℕ ℕ → B) → Demand3 toy (machine toy checks) files encode
toy_demand3 encode = demand3 toy checks lawful files encode

pub toy_sequences : Sequences toy (machine toy checks) files
toy_sequences = sequences toy checks lawful files

-- ---- an insertion and its cancellation, in two files, with a record between them that is discarded

abbrev before : List (List Said)
before = (say insert 5 5 ∷ []) ∷ []

abbrev two : List (List Said)
two = (say insert 5 5 ∷ []) ∷ (say insert 7 2 ∷ say insert 7 3 ∷ []) ∷ (say cancel 7 2 ∷ []) ∷ []

pub undone : after toy (machine toy checks) files two ≡ after toy (machine toy checks) files before
unfolding taken_all accepted_by run machine first find put keep put_all del_all any_in all_in all any
undone =
    (toy_demand3 (λ s. s)).undone two before (say insert 5 5 ∷ []) [] (say insert 7 2) (say cancel 7 2) refl refl
    (record { inserts = refl; cancels = refl; cases = λ k. refl; events = λ k. refl }) (λ k e. absurd (false≢true e))

-- ---- a file computed

abbrev file : List Said
file =
    say vary 7 1 ∷ say insert 7 2 ∷ say insert 7 3 ∷ say vary 7 4 ∷ say insert 5 5 ∷ say cancel 7 6 ∷ say cancel 7 7 ∷ say insert 7 8 ∷ []

pub answered : answers (machine toy checks) empty file ≡ 15 ∷ 0 ∷ 14 ∷ 0 ∷ 0 ∷ 0 ∷ 15 ∷ 0 ∷ []
unfolding answers machine first find put keep put_all del_all any_in all_in all any
answered = refl

pub stored : run (machine toy checks) empty file ≡ record { cases = row 5 5 ∷ row 7 8 ∷ []; events = [] }
unfolding run machine first find put keep put_all del_all any_in all_in all any
stored = refl
