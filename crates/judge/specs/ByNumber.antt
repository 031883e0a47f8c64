-- A record's events, one by one and against those of its case that stand (RULES.md, 7 Anomalies of a record): the same tests as in checks, with the
-- check's number as a parameter.
use Rattle.std.specs.Prelude.{ℕ, Bool, cond, not, ◌&&◌, ◌||◌, List, eqb, ltb}
use Rattle.laws.specs.Lists.{any, some_pair}
use Rattle.home_care.specs.Row.{date_of, end_of, event_key_of}
use Rattle.home_care.specs.Anomalies.{is_suspension, is_conclusion, share_day, after_conclusion, Context, out_of_quarter, day_for}

-- what 10, 23 and 25 ask of one event
abbrev pub wrong : ℕ → Context → ℕ → ℕ → Bool
wrong number c taken e =
    cond (eqb number 10) (out_of_quarter c (day_for e))
    (cond (eqb number 23) (is_suspension e && ltb (end_of e) (date_of e)) (ltb (date_of e) taken))

-- what 22, 26, 27 and 28 ask of two
abbrev pub clash : ℕ → ℕ → ℕ → Bool
clash number a b =
    cond (eqb number 22) (eqb (event_key_of a) (event_key_of b))
    (cond (eqb number 26) (share_day a b)
    (cond (eqb number 27) (is_conclusion a && is_conclusion b) (after_conclusion a b || after_conclusion b a)))

-- an event with the key of b is among es
abbrev pub key_among : List ℕ → ℕ → Bool
key_among es b = any (λ a. eqb (event_key_of a) (event_key_of b)) es

-- some two of the record's events, or one of them and one that stands and is not replaced: enough, where no two that stand do
abbrev pub fresh : (ℕ → ℕ → Bool) → List ℕ → List ℕ → Bool
fresh p es standing = some_pair p es || any (λ a. any (λ b. p a b && not (key_among es b)) standing) es
