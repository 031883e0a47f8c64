-- 22, 14 and 15: the keys of a record's events, against each other and against those that stand, as tests on the events' 52 bits.
use Prim.Native.Nat.{ℕ, ◌+◌, ◌*◌, ◌^◌, ◌<◌}
use mathlib.Core.Path.{◌≡◌, refl, sym, ap, ap₂, ◌∙◌}
use mathlib.Core.Bool.{Bool, true, false, cond, not, ◌||◌}
use mathlib.Core.List.{List, [], ◌∷◌, map}
use mathlib.Core.Option.{some}
use native.Mathlib.Omega.{arith}
use lib.Dec.{eqb}
use borrow.Author.Tests.{eqb-true, eq-eqb}
use Rattle.laws.specs.Lists.{all, any, some_pair}
use Rattle.laws.proofs.Order.{eqb_sym}
use Rattle.laws.proofs.Every.{Every, every_map, all_told, same_truth}
use Rattle.model.specs.Map.{Row, Map, is_some, find, has, keep, any_in, all_in, twice}
use Rattle.model.specs.Anomalies.{t22}
use Rattle.model.proofs.Lists.{any_same, not-all}
use Rattle.model.proofs.MapLaws.{find-keep}
use Rattle.register.specs.Layout.{case_named}
use Rattle.register.specs.Sound.{events_of}
use Rattle.register.specs.Stored.{Sized, Fits, events as event_group}
use Rattle.home_care.specs.Row.{row_bytes, own_bits, event_bits, evaluation_bits, key_number, siad, event_number_in, event_key_of, event_row}
use Rattle.home_care.specs.Record.{Head, Said, events, event_numbers}
use Rattle.home_care.proofs.Laid.{row_width}
use Rattle.home_care.proofs.EventKeys.{row_parts}
use Rattle.home_care.proofs.ReadBack.{event_case, event_read, event_key}
use Rattle.checks.specs.Flow.{flow, event_rows}
use Rattle.checks.specs.Readable.{event_readable}
use Rattle.checks.proofs.RowsAllowed.{number_lt, evaluation_lt}
use Rattle.judge.specs.ByNumber.{clash, key_among}
use Rattle.judge.proofs.Pairs.{any_agree, any-map}

-- a row of the case c: its key is the case's, and behind it the own one of its event
pub record Own (c : ℕ) (r : Row ℕ) : Type 0 where
  pub of : case_named siad r.key ≡ c
  pub parts : r.key ≡ c * 2 ^ own_bits + event_key_of (event_number_in r)

has-any : (k : ℕ) (m : Map ℕ) → has k m ≡ any (λ r. eqb k r.key) m
unfolding find any
has-any k [] = refl
has-any k (x ∷ m) = go (eqb k x.key) (has-any k m)
  where
    go : (b : Bool) → has k m ≡ any (λ r. eqb k r.key) m → is_some (cond b (some x.val) (find k m)) ≡ b || any (λ r. eqb k r.key) m
    go true ih = refl
    go false ih = ih

-- ---- a case's standing rows, and a record's rows

-- a row of the case that has its sizes, and the row that an event makes
sized_own : (c : ℕ) (r : Row ℕ) → Sized event_group siad r → case_named siad r.key ≡ c → Own c r
sized_own c r s e =
    record { of = e; parts = row_parts row_bytes row_width r s ∙ ap (λ (d : ℕ). d * 2 ^ own_bits + event_key_of (event_number_in r)) e }

row_own : (c e v : ℕ) → e < 2 ^ event_bits → v < 2 ^ evaluation_bits → Own c (event_row c e v)
row_own c e v h l =
    record { of = event_case c e v h l; parts = event_key c e v h l ∙ ap (λ (d : ℕ). c * 2 ^ own_bits + event_key_of d) (sym (event_read c e v h l)) }

pub own_standing : (c : ℕ) (m : Map ℕ) → Fits event_group siad m → Every (Own c) (events_of siad c m)
unfolding Fits keep
own_standing c [] f = tt
own_standing c (r ∷ m) f = go (eqb (case_named siad r.key) c) refl (own_standing c m f.1)
  where
    go : (b : Bool) → eqb (case_named siad r.key) c ≡ b → Every (Own c) (events_of siad c m) → Every (Own c) (cond b (r ∷ events_of siad c m) (events_of siad c m))
    go true e ih = (sized_own c r f.0 (eqb-true (case_named siad r.key) c e), ih)
    go false e ih = ih

-- of 52 bits each, and 47 beside them
abbrev Narrow : List Said → Type 0
Narrow es = Every (λ e. (e.event < 2 ^ event_bits) × (e.evaluation < 2 ^ evaluation_bits)) es

are_narrow : (es : List Said) → all event_readable es ≡ true → Narrow es
are_narrow es w =
    every_map es (λ e r. (number_lt e r, evaluation_lt e r)) (all_told event_readable es w)

module _ (c : ℕ) where
  own_of : (es : List Said) → Narrow es → Every (Own c) (event_rows c es)
  unfolding event_rows
  own_of [] w = tt
  own_of (e ∷ es) w = (row_own c e.event e.evaluation w.0.0 w.0.1, own_of es w.1)

  back : (es : List Said) → Narrow es → map event_number_in (event_rows c es) ≡ event_numbers es
  unfolding event_rows event_numbers
  back [] w = refl
  back (e ∷ es) w = ap₂ (λ (x : ℕ) (l : List ℕ). x ∷ l) (event_read c e.event e.evaluation w.0.0 w.0.1) (back es w.1)

  pub own_rows : (es : List Said) → all event_readable es ≡ true → Every (Own c) (event_rows c es)
  own_rows es w = own_of es (are_narrow es w)

  pub rows_back : (es : List Said) → all event_readable es ≡ true → map event_number_in (event_rows c es) ≡ event_numbers es
  rows_back es w = back es (are_narrow es w)

  -- ---- keys of rows, and of their 52 bits

  -- behind one case's key the own keys decide
  own_decides : (x y k l : ℕ) → x ≡ c * 2 ^ own_bits + k → y ≡ c * 2 ^ own_bits + l → eqb x y ≡ eqb l k
  own_decides x y k l a b =
      same_truth (eqb x y) (eqb l k)
      (λ h. let e : x ≡ y = eqb-true x y h in eq-eqb l k (omega arith))
      (λ h. let e : l ≡ k = eqb-true l k h in eq-eqb x y (omega arith))

  key_own : (x y : Row ℕ) → Own c x → Own c y → eqb x.key y.key ≡ eqb (event_key_of (event_number_in y)) (event_key_of (event_number_in x))
  key_own x y a b = own_decides x.key y.key (event_key_of (event_number_in x)) (event_key_of (event_number_in y)) a.parts b.parts

  -- a key stands in the case's rows just where its 52 bits' key is among theirs
  pub has_own : (x : Row ℕ) (m : Map ℕ) → Own c x → Every (Own c) m → has x.key m ≡ key_among (map event_number_in m) (event_number_in x)
  has_own x m o g =
      has-any x.key m
      ∙ any_agree (λ r. eqb x.key r.key) (λ r. eqb (event_key_of (event_number_in r)) (event_key_of (event_number_in x))) m (λ r q. key_own x r o q) g
      ∙ sym (any-map event_number_in (λ b. eqb (event_key_of b) (event_key_of (event_number_in x))) m)

  -- and in all rows just where it stands in the case's
  has_case : (x : Row ℕ) (m : Map ℕ) → Own c x → has x.key m ≡ has x.key (events_of siad c m)
  has_case x m o = sym (simp (find-keep x.key (λ k. eqb (case_named siad k) c) m, eq-eqb (case_named siad x.key) c o.of))

  twice_own : (rs : Map ℕ) → Every (Own c) rs → twice rs ≡ some_pair (clash 22) (map event_number_in rs)
  unfolding twice some_pair
  twice_own [] g = refl
  twice_own (x ∷ rs) g =
      ap₂ (λ (a b : Bool). a || b)
      (has_own x rs g.0 g.1 ∙ any_same _ _ (map event_number_in rs) (λ b. eqb_sym (event_key_of b) (event_key_of (event_number_in x))))
      (twice_own rs g.1)

-- ---- 22, 14, 15

pub twice_rows : (c : ℕ) (es : List Said) → all event_readable es ≡ true → twice (event_rows c es) ≡ some_pair (clash 22) (event_numbers es)
twice_rows c es w = twice_own c (event_rows c es) (own_rows c es w) ∙ ap (some_pair (clash 22)) (rows_back c es w)

pub is22 : (h : Head) (es : List Said) → all event_readable es ≡ true → t22 flow (events h es) ≡ some_pair (clash 22) (event_numbers es)
unfolding twice
is22 h es w = twice_rows (key_number h.key) es w

module _ (c : ℕ) (es : List Said) (w : all event_readable es ≡ true) (m : Map ℕ) (f : Fits event_group siad m) where
  abbrev standing : List ℕ
  standing = map event_number_in (events_of siad c m)

  -- a key of the record's rows
  has_row : (x : Row ℕ) → Own c x → has x.key m ≡ key_among standing (event_number_in x)
  has_row x o = has_case c x m o ∙ has_own c x (events_of siad c m) o (own_standing c m f)

  pub is14 : any_in (event_rows c es) m ≡ any (key_among standing) (event_numbers es)
  unfolding any_in
  is14 =
      any_agree (λ r. has r.key m) (λ r. key_among standing (event_number_in r)) (event_rows c es) has_row (own_rows c es w)
      ∙ sym (any-map event_number_in (key_among standing) (event_rows c es))
      ∙ ap (any (key_among standing)) (rows_back c es w)

  pub is15 : not (all_in (event_rows c es) m) ≡ any (λ e. not (key_among standing e)) (event_numbers es)
  unfolding all_in
  is15 =
      not-all (λ r. has r.key m) (event_rows c es)
      ∙ any_agree (λ r. not (has r.key m)) (λ r. not (key_among standing (event_number_in r))) (event_rows c es) (λ x o. ap not (has_row x o)) (own_rows c es w)
      ∙ sym (any-map event_number_in (λ e. not (key_among standing e)) (event_rows c es))
      ∙ ap (any (λ e. not (key_among standing e))) (rows_back c es w)
