-- All checks of a record of Track 2 in their order, as the code asks them.
use Prim.Native.Nat.{ℕ}
use mathlib.Core.Bool.{Bool, cond, not}
use mathlib.Core.List.{List}
use lib.Dec.{eqb}
use lib.ListN.{length}
use Rattle.laws.specs.Lists.{any, some_pair}
use Rattle.home_care.specs.Anomalies.{Context}
use Rattle.judge.specs.ByNumber.{wrong, clash}
use Rattle.judge.specs.Asked.{against_standing}

-- 20, 10, 21, 13, 22, 23, 24, and those against a case that stands
unfoldable pub answer_events : Context → (inserts cancels : Bool) → (taken : ℕ) → (es : List ℕ) → (bad zero stands : Bool) → (rows : ℕ) → (standing : List ℕ) → ℕ
answer_events c inserts cancels taken es bad zero stands rows standing =
    cond (eqb (length es) 0) 20
    (cond (any (wrong 10 c taken) es) 10
    (cond bad 21
    (cond zero 13
    (cond (some_pair (clash 22) es) 22
    (cond (any (wrong 23 c taken) es) 23
    (cond (not stands) 24 (against_standing c inserts cancels taken es rows standing)))))))
