-- Ordered maps (RULES.md, R3: "In each of the two groups the keys ascend strictly"). A row's key is the number that its first bits make.
use Rattle.std.specs.Prelude.{ℕ, suc, ◌≤◌, ◌<◌, ◌≡◌, Bool, true, false, cond, not, ◌||◌, List, [], ◌∷◌, eqb, ltb, length, get_or}
use Rattle.std.proofs.Math.Option.{Option, none, some}
use Rattle.laws.specs.Lists.{all, any}

-- a lookup found something
abbrev pub is_some : {A : Type 0} → Option A → Bool
is_some none = false
is_some (some a) = true

-- the first lookup, or else the second
abbrev pub or_else : {A : Type 0} → Option A → Option A → Option A
or_else none b = b
or_else (some a) b = some a

-- the last element of a list that passes a test
unfoldable pub last_of : {R : Type 0} → (R → Bool) → List R → Option R
last_of p [] = none
last_of p (r ∷ rs) = or_else (last_of p rs) (cond (p r) (some r) none)

-- R2: "rows of 96 bytes": a key, and the fields past it
pub record Row (F : Type 0) : Type 0 where
  pub key : ℕ
  pub val : F

-- R2: "all cases and then all events": rows, one after the other
abbrev pub Map : Type 0 → Type 0
Map F = List (Row F)

module _ {F : Type 0} where
  -- the fields of the row with the key k
  unfoldable pub find : ℕ → Map F → Option F
  find k [] = none
  find k (x ∷ m) = cond (eqb k x.key) (some x.val) (find k m)

  -- W1: "at the place of its key"; W2: "whole rows in the place of those with their keys"
  unfoldable pub put : Row F → Map F → Map F
  put r [] = r ∷ []
  put r (x ∷ m) = cond (ltb r.key x.key) (r ∷ x ∷ m) (cond (eqb r.key x.key) (r ∷ m) (x ∷ put r m))

  -- the rows whose keys pass the test p
  unfoldable pub keep : (ℕ → Bool) → Map F → Map F
  keep p [] = []
  keep p (x ∷ m) = cond (p x.key) (x ∷ keep p m) (keep p m)

  -- W3: "takes out the rows with the record's keys": the row with the key k taken out
  abbrev pub del : ℕ → Map F → Map F
  del k m = keep (λ j. not (eqb j k)) m

  -- V5: "Keys ascend strictly", from b on
  unfoldable pub Asc : ℕ → Map F → Type 0
  Asc b [] = Unit {0}
  Asc b (x ∷ m) = (b ≤ x.key) × Asc (suc x.key) m

  -- each key once: two places with one key are one place
  abbrev pub Once : Map F → Type 0
  Once m = (d : Row F) (i j : ℕ) → i < length m → j < length m → (get_or m i d).key ≡ (get_or m j d).key → i ≡ j

  -- all rows of a record put in, all taken out
  unfoldable pub put_all : Map F → Map F → Map F
  put_all [] m = m
  put_all (r ∷ rs) m = put r (put_all rs m)

  unfoldable pub del_all : Map F → Map F → Map F
  del_all [] m = m
  del_all (r ∷ rs) m = del r.key (del_all rs m)

  -- a row with the key k stands
  abbrev pub has : ℕ → Map F → Bool
  has k m = is_some (find k m)

  -- 14: some key of the rows rs stands in m
  unfoldable pub any_in : Map F → Map F → Bool
  any_in rs m = any (λ r. has r.key m) rs

  -- 15: every key of the rows rs stands in m
  unfoldable pub all_in : Map F → Map F → Bool
  all_in rs m = all (λ r. has r.key m) rs

  -- 22: one key twice in the rows rs
  unfoldable pub twice : Map F → Bool
  twice [] = false
  twice (r ∷ rs) = has r.key rs || twice rs
