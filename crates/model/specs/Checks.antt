-- Numbered checks in order (RULES.md, J1: "A record's answer is the first anomaly of its track that holds; 0 is acceptance").
use Rattle.std.specs.Prelude.{ℕ, ◌≡◌, Bool, true, false, cond, List, [], ◌∷◌, ◌++◌, eqb, ltb}
use Rattle.laws.specs.Lists.{all, any}

-- a row of the table: a number, and when it holds
pub record Check (C : Type 0) : Type 0 where
  pub number : ℕ
  pub holds : C → Bool

-- a row written short
abbrev pub check : {C : Type 0} → ℕ → (C → Bool) → Check C
check n h = record { number = n; holds = h }

module _ {C : Type 0} where
  -- the number of the first that holds, else 0
  unfoldable pub first : List (Check C) → C → ℕ
  first [] c = 0
  first (t ∷ ts) c = cond (t.holds c) t.number (first ts c)

  -- no check of the list holds
  abbrev pub NoneHolds : List (Check C) → C → Type 0
  NoneHolds ts c = any (λ t. t.holds c) ts ≡ false

  -- a check of the list with the number n holds, and none before it does
  pub record FirstIs (ts : List (Check C)) (c : C) (n : ℕ) : Type 0 where
    pub before : List (Check C)
    pub it : Check C
    pub after : List (Check C)
    pub list : ts ≡ before ++ it ∷ after
    pub number_is : it.number ≡ n
    pub it-holds : it.holds c ≡ true
    pub none_before : NoneHolds before c

  -- no check has the number 0
  abbrev pub numbered : List (Check C) → Bool
  numbered ts = all (λ t. ltb 0 t.number) ts

  -- the test of the first check with the number n: a check is reached by its number
  abbrev pub test_of : ℕ → List (Check C) → C → Bool
  test_of n [] c = false
  test_of n (t ∷ ts) c = cond (eqb n t.number) (t.holds c) (test_of n ts c)

  -- some check of the list has the number n
  abbrev pub among : ℕ → List (Check C) → Bool
  among n ts = any (λ t. eqb n t.number) ts
