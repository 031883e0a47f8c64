-- A leaf's text and an attribute's value, in an element without a fault.
use Prim.Native.Nat.{ℕ, ◌<◌}
use mathlib.Core.Path.{◌≡◌, refl}
use mathlib.Core.Bool.{Bool, true, false, cond, not, ◌&&◌, ◌||◌, false≢true}
use mathlib.Core.List.{List, [], ◌∷◌}
use Rattle.laws.specs.Lists.{all, any, same}
use Rattle.laws.proofs.Truth.{and_left, and_right, or_left, or_right}
use Rattle.markup.specs.Tags.{Pair}
use Rattle.markup.specs.Elements.{Inside, Tree}
use Rattle.markup.specs.Elements.Inside.{end, says, note, elem}
use Rattle.reading.proofs.Cut.{never}
use Rattle.schema.specs.Texts.{Texts, fits_text}
use Rattle.schema.specs.Schema.{Attr, Particle, leaf}
use Rattle.schema.specs.Shape.{is_named, attr_fits, attrs_fit, leaf_fits, begins}
use Rattle.nodes.specs.Lookup.{value_in, attr_of, has_attr, said, text_of}
use Rattle.nodes.proofs.Taken.{Meets, cond_none}

leaf_fits_lem : (x : Texts) (i : Inside) → leaf_fits x i ≡ true → fits_text x (said i) ≡ true
leaf_fits_lem x end e = e
leaf_fits_lem x (says t end) e = e
leaf_fits_lem x (says t (says u k)) e = absurd (false≢true e)
leaf_fits_lem x (says t (note k)) e = absurd (false≢true e)
leaf_fits_lem x (says t (elem z n ps i k)) e = absurd (false≢true e)
leaf_fits_lem x (note k) e = absurd (false≢true e)
leaf_fits_lem x (elem z n ps i k) e = absurd (false≢true e)

module _ (p : Tree → Type 0) (far : (c : Tree) → p c → 0 < c.from) {h : Particle} {x : Texts} {t : Tree} (m : Meets p (leaf h x) t) where
  leaf_both : attrs_fit [] h.attrs t.pairs && leaf_fits x t.inside ≡ true
  leaf_both = (cond_none (attrs_fit [] h.attrs t.pairs && leaf_fits x t.inside) 0 t.from (far t m.known.0) m.clean).0

  -- a leaf's text is of its texts
  pub leaf_text : fits_text x (text_of t) ≡ true
  leaf_text = leaf_fits_lem x t.inside (and_right (attrs_fit [] h.attrs t.pairs) (leaf_fits x t.inside) leaf_both)

  pub leaf_attrs : attrs_fit [] h.attrs t.pairs ≡ true
  leaf_attrs = and_left (attrs_fit [] h.attrs t.pairs) (leaf_fits x t.inside) leaf_both

-- ---- attributes

-- the schema's attribute of a name, the first of it
pub data Given : Type 0 where
  ungiven : Given
  given : Attr → Given

unfoldable pub attr_named : List ℕ → List Attr → Given
attr_named x [] = ungiven
attr_named x (a ∷ as') = cond (same x a.named) (given a) (attr_named x as')

attr_fits_lem : (x : List ℕ) (ps : List Pair) (a : Attr) (attrs : List Attr) → attr_named x attrs ≡ given a → all (attr_fits ps) attrs ≡ true → attr_fits ps a ≡ true
unfolding attr_named all
attr_fits_lem x ps a [] e h = never cc
attr_fits_lem x ps a (b ∷ attrs) e h = go (same x b.named) (λ q. attr_fits_lem x ps a attrs q (and_right (attr_fits ps b) (all (attr_fits ps) attrs) h)) e
  where
    go : (t : Bool) → (attr_named x attrs ≡ given a → attr_fits ps a ≡ true) → cond t (given b) (attr_named x attrs) ≡ given a → attr_fits ps a ≡ true
    go true i q = let w : b ≡ a = cc in rw w at (and_left (attr_fits ps b) (all (attr_fits ps) attrs) h)
    go false i q = i q

-- a value that is there is of its texts
value_fits : (n : List ℕ) (x : Texts) (ps : List Pair) → any (is_named n) ps ≡ true → all (λ p. not (is_named n p) || fits_text x p.val) ps ≡ true
    → fits_text x (value_in n ps) ≡ true
unfolding any all value_in
value_fits n x [] e h = absurd (false≢true e)
value_fits n x (q ∷ ps) e h =
    go (is_named n q) (λ f. value_fits n x ps f (and_right (not (is_named n q) || fits_text x q.val) (all (λ p. not (is_named n p) || fits_text x p.val) ps) h))
    (and_left (not (is_named n q) || fits_text x q.val) (all (λ p. not (is_named n p) || fits_text x p.val) ps) h) e
  where
    go : (b : Bool) → (any (is_named n) ps ≡ true → fits_text x (value_in n ps) ≡ true) → not b || fits_text x q.val ≡ true → b || any (is_named n) ps ≡ true
        → fits_text x (cond b q.val (value_in n ps)) ≡ true
    go true i f e = f
    go false i f e = i e

pub value_missing : (n : List ℕ) (ps : List Pair) → any (is_named n) ps ≡ false → value_in n ps ≡ []
unfolding any value_in
value_missing n [] e = refl
value_missing n (q ∷ ps) e = rw (or_left (is_named n q) (any (is_named n) ps) e) (value_missing n ps (or_right (is_named n q) (any (is_named n) ps) e))

-- an attribute that may be missing
pub data AttrMayLack (a : Attr) (t : Tree) : Type 0 where
  lacks : has_attr a.named t ≡ false → attr_of a.named t ≡ [] → AttrMayLack a t
  has : has_attr a.named t ≡ true → fits_text a.texts (attr_of a.named t) ≡ true → AttrMayLack a t

module _ (attrs : List Attr) (t : Tree) (f : attrs_fit [] attrs t.pairs ≡ true) (x : List ℕ) (a : Attr) (e : attr_named x attrs ≡ given a) where
  both : attr_fits t.pairs a ≡ true
  both =
      attr_fits_lem x t.pairs a attrs e
      (and_left (all (attr_fits t.pairs) attrs)
      (all (λ p. any (λ a. is_named a.named p) attrs || any (λ f. begins f p.key) []) t.pairs) f)

  values : all (λ p. not (is_named a.named p) || fits_text a.texts p.val) t.pairs ≡ true
  values = and_right (not a.required || any (is_named a.named) t.pairs) (all (λ p. not (is_named a.named p) || fits_text a.texts p.val) t.pairs) both

  -- a required attribute is there, and of its texts
  pub attr_one : a.required ≡ true → fits_text a.texts (attr_of a.named t) ≡ true
  attr_one r =
      let q = and_left (not a.required || any (is_named a.named) t.pairs) (all (λ p. not (is_named a.named p) || fits_text a.texts p.val) t.pairs) both in
      value_fits a.named a.texts t.pairs (rw r at q) values

  -- any other is missing, or of its texts
  pub attr_maybe : AttrMayLack a t
  attr_maybe = go (has_attr a.named t) refl
    where
      go : (b : Bool) → has_attr a.named t ≡ b → AttrMayLack a t
      go true u = has u (value_fits a.named a.texts t.pairs u values)
      go false u = lacks u (value_missing a.named t.pairs u)
