-- Anomalies of a record (RULES.md, 7), J1: "the first anomaly of its track that holds"; both tracks' lists, in the order of J2 and J3.
use Rattle.std.specs.Prelude.{ℕ, List, [], ◌∷◌, map}
use Rattle.model.specs.Checks.{Check, check}
use Rattle.model.specs.Machine.{Machine}
use Rattle.model.specs.Flow.{State, machine}
use Rattle.model.specs.Anomalies.{t14, t15, t17, t22}
use Rattle.register.specs.Sound.{events_of}
use Rattle.home_care.specs.Row.{key_number, siad, event_number_in}
use Rattle.home_care.specs.Anomalies.{t23, t25, t26, t27, t28, Context, out_of_quarter, t11, t12, zero_kept, t10, t13, t20, t21, t24}
use Rattle.home_care.specs.Record.{Head, Record, admission, events, event_numbers}
use Rattle.checks.specs.Flow.{flow, next}

-- J5: "25 to 28 look at the events that the case would have afterwards"; `then r s` is the state afterwards
abbrev pub afterwards : (Record → State ℕ ℕ → State ℕ ℕ) → Head → Record → State ℕ ℕ → List ℕ
afterwards then h r s = map event_number_in (events_of siad (key_number h.key) (then r s).events)

abbrev pub checks_with : (Record → State ℕ ℕ → State ℕ ℕ) → Context → Record → List (Check (State ℕ ℕ))
checks_with then c (admission h a) =
    check 10 (λ s. out_of_quarter c h.key.taken) ∷
    check 11 (λ s. t11 h.key a.case) ∷
    check 12 (λ s. t12 a.residence) ∷
    check 13 (λ s. zero_kept a.case.prevalente) ∷
    check 14 (t14 flow (admission h a)) ∷
    check 15 (t15 flow (admission h a)) ∷
    check 17 (t17 flow c.room (admission h a)) ∷
    []
checks_with then c (events h es) =
    check 20 (λ s. t20 es) ∷
    check 10 (λ s. t10 c (event_numbers es)) ∷
    check 21 (λ s. t21 es) ∷
    check 13 (λ s. t13 es) ∷
    check 22 (λ s. t22 flow (events h es)) ∷
    check 23 (λ s. t23 (event_numbers es)) ∷
    check 24 (t24 h) ∷
    check 14 (t14 flow (events h es)) ∷
    check 15 (t15 flow (events h es)) ∷
    check 25 (λ s. t25 h.key.taken (afterwards then h (events h es) s)) ∷
    check 26 (λ s. t26 (afterwards then h (events h es) s)) ∷
    check 27 (λ s. t27 (afterwards then h (events h es) s)) ∷
    check 28 (λ s. t28 (afterwards then h (events h es) s)) ∷
    check 17 (t17 flow c.room (events h es)) ∷
    []

abbrev pub checks_of : Context → Record → List (Check (State ℕ ℕ))
checks_of c r = checks_with next c r

-- judging by the checks, and what an accepted record does
abbrev pub siad_machine : Context → Machine (State ℕ ℕ) Record
siad_machine c = machine flow (checks_of c)
