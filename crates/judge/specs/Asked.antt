-- The last checks of a record in their order, as the code asks them. That they give the answers of the lists in checks is proved (proofs/Answers).
use Rattle.std.specs.Prelude.{ℕ, ◌+◌, Bool, cond, not, ◌&&◌, List, ltb, length}
use Rattle.laws.specs.Lists.{any}
use Rattle.home_care.specs.Anomalies.{Context}
use Rattle.judge.specs.ByNumber.{wrong, clash, key_among, fresh}

-- Track 2: what a record brings (its type, its taking in, its events' 52 bits) against what stands (the rows, its case's events)
module _ (c : Context) (inserts cancels : Bool) (taken : ℕ) (es : List ℕ) where
  -- 14, 15, 25, 26, 27, 28, 17: where the case stands
  unfoldable pub against_standing : ℕ → List ℕ → ℕ
  against_standing rows standing =
      cond (inserts && any (key_among standing) es) 14
      (cond (not inserts && any (λ e. not (key_among standing e)) es) 15
      (cond (not cancels && any (wrong 25 c taken) es) 25
      (cond (not cancels && fresh (clash 26) es standing) 26
      (cond (not cancels && fresh (clash 27) es standing) 27
      (cond (not cancels && fresh (clash 28) es standing) 28
      (cond (inserts && ltb c.room (rows + length es)) 17 0))))))

-- Track 1: 10, 11, 12, 13 as told, then 14, 15, 17
unfoldable pub answer_admission : Context → (inserts : Bool) → (out early abroad zero : Bool) → (stands : Bool) → (rows : ℕ) → ℕ
answer_admission c inserts out early abroad zero stands rows =
    cond out 10
    (cond early 11
    (cond abroad 12
    (cond zero 13
    (cond (inserts && stands) 14
    (cond (not inserts && not stands) 15
    (cond (inserts && ltb c.room (rows + 1)) 17 0))))))
