-- The rows of a table one after the other, and a tag's attributes held against them.
use Prim.Native.Nat.{ℕ, zero, suc, ◌+◌, ◌-◌, ◌<◌, ◌≤◌}
use mathlib.Core.Path.{◌≡◌, refl, sym, ap, ◌∙◌}
use mathlib.Core.Bool.{Bool, true, false, not, ◌&&◌, ◌||◌}
use mathlib.Core.List.{List, [], ◌∷◌}
use native.Mathlib.Omega.{arith}
use native.Mathlib.Nat.{add-zero, sub-zero}
use lib.Dec.{eqb}
use Rattle.laws.specs.Lists.{all, any, same}
use Rattle.laws.proofs.Truth.{and-false}
use Rattle.markup.specs.Tags.{Pair}
use Rattle.schema.specs.Texts.{fits_text}
use Rattle.schema.specs.Schema.{Attr}
use Rattle.schema.specs.Shape.{is_named, attr_fits, attrs_fit, begins}
use Rattle.schema.specs.Table.{least_cell, cell, name_at, names_at, attrs_at}
use Rattle.schema.specs.View.{takes, attr_at}
use Rattle.schema.proofs.Ranges.{one_left, none_left}

module _ (table pool ranges : List ℕ) (first n : ℕ) where
  -- k rows are passed
  abbrev pub names_from : ℕ → List (List ℕ)
  names_from k = names_at table pool ranges (first + k) (n - k)

  abbrev pub attrs_from : ℕ → List Attr
  attrs_from k = attrs_at table pool ranges (first + k) (n - k)

  pub names_start : names_at table pool ranges first n ≡ names_from 0
  names_start = rw (add-zero first, sub-zero n)

  pub attrs_start : attrs_at table pool ranges first n ≡ attrs_from 0
  attrs_start = rw (add-zero first, sub-zero n)

  module _ (f : List ℕ → Bool) (k : ℕ) where
    pub names_end : n ≤ k → any f (names_from k) ≡ false
    unfolding names_at any
    names_end h = rw (none_left n k h)

    names_turn : k < n → any f (names_from k) ≡ (f (name_at table pool ranges (first + k)) || any f (names_from (k + 1)))
    unfolding names_at any
    names_turn h =
        let e : suc (first + k) ≡ first + (k + 1) = omega arith in
        rw (one_left n k h, e)

    pub names_hit : k < n → true ≡ f (name_at table pool ranges (first + k)) → true ≡ any f (names_from k)
    names_hit h e = rw (names_turn h, ← e)

    pub names_pass : k < n → false ≡ f (name_at table pool ranges (first + k)) → any f (names_from k) ≡ any f (names_from (k + 1))
    names_pass h e = rw (names_turn h, ← e)

  module _ (f : Attr → Bool) (k : ℕ) where
    pub attrs_end : n ≤ k → all f (attrs_from k) ≡ true
    unfolding attrs_at all
    attrs_end h = rw (none_left n k h)

    attrs_turn : k < n → all f (attrs_from k) ≡ (f (attr_at table pool ranges (first + k)) && all f (attrs_from (k + 1)))
    unfolding attrs_at all
    attrs_turn h =
        let e : suc (first + k) ≡ first + (k + 1) = omega arith in
        rw (one_left n k h, e)

    pub attrs_no : k < n → f (attr_at table pool ranges (first + k)) ≡ false → false ≡ all f (attrs_from k)
    attrs_no h e = rw (attrs_turn h, e)

    pub attrs_pass : k < n → f (attr_at table pool ranges (first + k)) ≡ true → all f (attrs_from k) ≡ all f (attrs_from (k + 1))
    attrs_pass h e = rw (attrs_turn h, e)

-- one more attribute before those that follow
module _ (q : Pair → Bool) (p : Pair) (ps : List Pair) where
  pub pairs_pass : q p ≡ true → all q (p ∷ ps) ≡ all q ps
  unfolding all
  pairs_pass e = rw e

  pub pairs_no : q p ≡ false → false ≡ all q (p ∷ ps)
  unfolding all
  pairs_no e = rw e

-- one of the names takes the attribute's
abbrev pub all_taken : Bool → List (List ℕ) → Pair → Bool
all_taken free names p = any (λ x. takes free x p.key) names

-- the attribute of a row, where nothing more is asked or it was there already
abbrev pub attr_after : Attr → Bool → List Pair → Bool
attr_after a seen ps = (seen || any (is_named a.named) ps) && all (λ p. not (is_named a.named p) || fits_text a.texts p.val) ps

or_assoc : (a b c : Bool) → (a || (b || c)) ≡ ((a || b) || c)
or_assoc true b c = refl
or_assoc false b c = refl

not-not : (a : Bool) → not (not a) ≡ a
not-not true = refl
not-not false = refl

pub attr_start : (table pool ranges : List ℕ) (row : ℕ) (ps : List Pair) {x : ℕ} → x ≡ cell table pool ranges row least_cell
    → attr_after (attr_at table pool ranges row) (eqb x 0) ps ≡ attr_fits ps (attr_at table pool ranges row)
attr_start table pool ranges row ps {x} e = rw (← e, not-not (eqb x 0))

pub attr_end : (a : Attr) (seen : Bool) → attr_after a seen [] ≡ seen
unfolding any all
attr_end a true = refl
attr_end a false = refl

module _ (a : Attr) (seen : Bool) (p : Pair) (ps : List Pair) where
  pub attr_next : {v b : Bool} → v ≡ (not (is_named a.named p) || fits_text a.texts p.val) → v ≡ true → b ≡ is_named a.named p → attr_after a seen (p ∷ ps) ≡ attr_after a (seen || b) ps
  unfolding any all
  attr_next {v} {b} e f g =
      let i = sym e ∙ f in
      rw (i, ← g, or_assoc seen b (any (is_named a.named) ps))

  pub attr_no : {v : Bool} → v ≡ (not (is_named a.named p) || fits_text a.texts p.val) → v ≡ false → false ≡ attr_after a seen (p ∷ ps)
  unfolding any all
  attr_no e f =
      let i = sym e ∙ f in
      rw i (sym (and-false (seen || (is_named a.named p || any (is_named a.named) ps))))

-- the names of the attributes' rows are the rows' names
names_attrs : (table pool ranges key : List ℕ) (first n : ℕ)
    → any (λ x. takes false x key) (names_at table pool ranges first n) ≡ any (λ (a : Attr). same a.named key) (attrs_at table pool ranges first n)
unfolding names_at attrs_at any
names_attrs table pool ranges key first zero = refl
names_attrs table pool ranges key first (suc n) =
    ap (λ (b : Bool). same (name_at table pool ranges first) key || b) (names_attrs table pool ranges key (suc first) n)

all_same : (f g : Pair → Bool) (ps : List Pair) → ((p : Pair) → f p ≡ g p) → all f ps ≡ all g ps
unfolding all
all_same f g [] h = refl
all_same f g (p ∷ ps) h = rw (h p, all_same f g ps h)

or_none : (a : Bool) → a ≡ (a || false)
or_none true = refl
or_none false = refl

module _ (table pool ranges : List ℕ) (first n : ℕ) (ps : List Pair) where
  known_is : all (λ p. any (λ x. takes false x p.key) (names_at table pool ranges first n)) ps
      ≡ all (λ p. any (λ (a : Attr). is_named a.named p) (attrs_at table pool ranges first n) || any (λ f. begins f p.key) []) ps
  unfolding any
  known_is =
      all_same (λ p. any (λ x. takes false x p.key) (names_at table pool ranges first n))
      (λ p. any (λ (a : Attr). is_named a.named p) (attrs_at table pool ranges first n) || any (λ f. begins f p.key) []) ps
      (λ p. names_attrs table pool ranges p.key first n ∙ or_none (any (λ (a : Attr). is_named a.named p) (attrs_at table pool ranges first n)))

  pub attrs_yes : {v r : Bool} → v ≡ all (attr_fits ps) (attrs_at table pool ranges first n) → v ≡ true
      → r ≡ all (λ p. any (λ x. takes false x p.key) (names_at table pool ranges first n)) ps → r ≡ attrs_fit [] (attrs_at table pool ranges first n) ps
  attrs_yes e f g =
      let i = sym e ∙ f in
      rw i (g ∙ known_is)

  pub attrs_bad : {v : Bool} → v ≡ all (attr_fits ps) (attrs_at table pool ranges first n) → v ≡ false → false ≡ attrs_fit [] (attrs_at table pool ranges first n) ps
  attrs_bad e f = let i = sym e ∙ f in rw i

  pub attrs_root : all (λ p. any (λ x. takes true x p.key) (names_at table pool ranges first n)) ps ≡ attrs_fit (names_at table pool ranges first n) [] ps
  unfolding all any
  attrs_root = refl
