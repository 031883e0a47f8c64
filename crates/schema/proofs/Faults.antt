-- The fault in an element by its row, and the number of counted elements in it, from what the code reads of its start tag.
use Prim.Native.Nat.{ℕ, zero, suc, ◌+◌, ◌-◌}
use mathlib.Core.Path.{◌≡◌, refl, sym, ap, ◌∙◌}
use mathlib.Core.Bool.{Bool, true, false, cond, ◌&&◌}
use mathlib.Core.List.{List, []}
use native.Mathlib.Omega.{arith}
use lib.Dec.{eqb}
use lib.ListN.{length, drop}
use borrow.Author.Tests.{ne_eqb}
use Rattle.markup.specs.NamesAndValues.Read.{refused, read}
use Rattle.markup.specs.NamesAndValues.{name}
use Rattle.markup.specs.Tags.{Attributes, attributes}
use Rattle.markup.specs.Elements.{Inside, Tree, content, element}
use Rattle.markup.specs.Elements.Inside.{end}
use Rattle.markup.specs.View.{left, ending_of, OfPairs}
use Rattle.reading.proofs.Cut.{never, read_in}
use Rattle.schema.specs.Schema.{Attr, leaf, group}
use Rattle.schema.specs.Shape.{attrs_fit, leaf_fits, fault_in, fault_of}
use Rattle.schema.specs.CountedElements.{count_in, count_of}
use Rattle.schema.specs.Table.{kind_cell, attr_cell, attrs_cell, group_kind, another_kind, cell, texts_of, attrs_at, head_at, node_at}
use Rattle.schema.specs.View.{nodes_of, fault_within}
use Rattle.schema.proofs.Tagged.{Tagged, tagged}
use Rattle.schema.proofs.Counts.{count_within, node_count, another_count, empty_count}

module _ (table pool ranges : List ℕ) (row : ℕ) where
  -- the attributes of a row
  abbrev pub attrs_of : List Attr
  attrs_of = attrs_at table pool ranges (cell table pool ranges row attr_cell) (cell table pool ranges row attrs_cell)

  two_tests : (a b : Bool) (z : ℕ) → cond (a && b) 0 z ≡ cond a (cond b 0 z) z
  two_tests true b z = refl
  two_tests false b z = refl

  by_kind : (d : ℕ) (p : Bool) (t : Tree)
      → fault_of (cond p (group (head_at table pool ranges row) (nodes_of table pool ranges d row)) (leaf (head_at table pool ranges row) (texts_of table pool ranges row))) t
      ≡ cond (attrs_fit [] attrs_of t.pairs)
      (cond p (fault_in (nodes_of table pool ranges d row) 0 t.from t.inside) (cond (leaf_fits (texts_of table pool ranges row) t.inside) 0 t.from))
      t.from
  unfolding head_at
  by_kind d true t = refl
  by_kind d false t = two_tests (attrs_fit [] attrs_of t.pairs) (leaf_fits (texts_of table pool ranges row) t.inside) t.from

  node_other : (d : ℕ) (t : Tree) → (cell table pool ranges row kind_cell ≡ another_kind → ⊥) → fault_of (node_at table pool ranges (suc d) row) t ≡ cond (attrs_fit [] attrs_of t.pairs) (fault_within table pool ranges d row t.from t.inside) t.from
  unfolding node_at
  node_other d t h =
      let q : eqb (cell table pool ranges row kind_cell) another_kind ≡ false = ne_eqb (cell table pool ranges row kind_cell) another_kind h in
      rw q (by_kind d (eqb (cell table pool ranges row kind_cell) group_kind) t)

  pub node_another : (d : ℕ) (t : Tree) → cell table pool ranges row kind_cell ≡ another_kind → fault_of (node_at table pool ranges d row) t ≡ 0
  unfolding node_at
  node_another d t h = go d
    where
      go : (d : ℕ) → fault_of (node_at table pool ranges d row) t ≡ 0
      go zero = rw h
      go (suc d) = rw h

-- what stands in an element of a row, by its kind
module _ (table pool ranges : List ℕ) (d row z : ℕ) (i : Inside) where
  pub within_group : cell table pool ranges row kind_cell ≡ group_kind
      → (fault_within table pool ranges d row z i ≡ fault_in (nodes_of table pool ranges d row) 0 z i) × (count_within table pool ranges d row i ≡ count_in (nodes_of table pool ranges d row) 0 i)
  within_group e = (rw e, rw e)

  pub within_leaf : (cell table pool ranges row kind_cell ≡ group_kind → ⊥) → (fault_within table pool ranges d row z i ≡ cond (leaf_fits (texts_of table pool ranges row) i) 0 z) × (count_within table pool ranges d row i ≡ 0)
  within_leaf e =
      let q : eqb (cell table pool ranges row kind_cell) group_kind ≡ false = ne_eqb (cell table pool ranges row kind_cell) group_kind e in
      (rw q, rw q)

-- a start tag's end, as the code reads it
module _ (after : List ℕ) (a : Attributes) (rest : List ℕ) (e : attributes after ≡ read a rest) where
  pub ends_with : (b : Bool) {y : List ℕ} → read b y ≡ ending_of (attributes after) → (a.shut ≡ b) × (y ≡ rest)
  ends_with b h = let v = read_in (rw e at h) in (sym v.0, v.1)

  pub ends_refused : refused ≡ ending_of (attributes after) → ⊥
  ends_refused h = let v = rw e at h in never cc

-- the element at a place
module _ (table pool ranges s : List ℕ) (at levels row : ℕ) (t : Tree) (m : List ℕ) (e : element levels (drop at s) ≡ read t m) where
  abbrev the_fault : ℕ
  the_fault = fault_of (node_at table pool ranges levels row) t

  abbrev the_count : ℕ
  the_count = count_of (node_at table pool ranges levels row) t

  pub another_known : {y : List ℕ} → cell table pool ranges row kind_cell ≡ another_kind → y ≡ m → (the_fault ≡ 0) × (0 ≡ the_count) × (y ≡ m)
  another_known h p = (node_another table pool ranges row levels t h, another_count table pool ranges row levels t (λ e. omega arith), p)

  pub another_past : {y : List ℕ} → cell table pool ranges row kind_cell ≡ another_kind → read tt y ≡ left (element levels (drop at s)) → (the_fault ≡ 0) × (0 ≡ the_count) × (y ≡ m)
  another_past h p = another_known h (read_in (rw e at p)).1

  pub another_refused : refused ≡ left (element levels (drop at s)) → ⊥
  another_refused p = let v = rw e at p in never cc

  abbrev parts : Tagged (levels - 1) s at t m
  parts = tagged levels s at t m e

  some_levels : levels ≡ suc (levels - 1)
  unfolding element
  some_levels = go levels e
    where
      go : (d : ℕ) → element d (drop at s) ≡ read t m → d ≡ suc (d - 1)
      go zero e = never cc
      go (suc d) e = omega arith

  count_is : the_count ≡ count_within table pool ranges (levels - 1) row parts.inside
  count_is =
      ap (λ (d : ℕ). count_of (node_at table pool ranges d row) t) some_levels
      ∙ node_count table pool ranges (levels - 1) row t
      ∙ ap (λ (t : Tree). count_within table pool ranges (levels - 1) row t.inside) parts.is

  module _ (h : cell table pool ranges row kind_cell ≡ another_kind → ⊥) where
    fault_is : the_fault ≡ cond (attrs_fit [] (attrs_of table pool ranges row) parts.attrs.pairs) (fault_within table pool ranges (levels - 1) row (length s - at) parts.inside) (length s - at)
    fault_is =
        ap (λ (d : ℕ). fault_of (node_at table pool ranges d row) t) some_levels
        ∙ node_other table pool ranges row (levels - 1) t h
        ∙ ap (λ (t : Tree). cond (attrs_fit [] (attrs_of table pool ranges row) t.pairs) (fault_within table pool ranges (levels - 1) row t.from t.inside) t.from) parts.is

    module _ (n after : List ℕ) (u : read n after ≡ name (drop (at + 1) s)) where
      same_name : t.named ≡ n
      same_name = sym (read_in (u ∙ parts.named)).0

      pub attrs_are : attributes after ≡ read parts.attrs parts.rest
      attrs_are = ap attributes (read_in (u ∙ parts.named)).1 ∙ parts.pairs

      module _ (b : Bool) (f : OfPairs (attrs_fit [] (attrs_of table pool ranges row)) after b) where
        pub tag_unfit : b ≡ false → the_fault ≡ length s - at
        tag_unfit g = let i = sym (f parts.attrs parts.rest attrs_are) ∙ g in fault_is ∙ rw i

        tag_fit : b ≡ true → the_fault ≡ fault_within table pool ranges (levels - 1) row (length s - at) parts.inside
        tag_fit g = let i = sym (f parts.attrs parts.rest attrs_are) ∙ g in fault_is ∙ rw i

        pub tag_shut : {y : List ℕ} → b ≡ true → read true y ≡ ending_of (attributes after)
            → (the_fault ≡ fault_within table pool ranges (levels - 1) row (length s - at) end) × (0 ≡ the_count) × (y ≡ m)
        tag_shut g w =
            let v = ends_with after parts.attrs parts.rest attrs_are true w in
            let x = read_in (rw v.0 at parts.holds) in (
              tag_fit g ∙ ap (fault_within table pool ranges (levels - 1) row (length s - at)) (sym x.0),
              empty_count table pool ranges (levels - 1) row ∙ ap (count_within table pool ranges (levels - 1) row) x.0 ∙ sym count_is,
              v.1 ∙ x.1,
            )

        pub tag_open : {y : List ℕ} → b ≡ true → read false y ≡ ending_of (attributes after)
            → (i : Inside) × (content (element (levels - 1)) n y ≡ read i m) × (the_fault ≡ fault_within table pool ranges (levels - 1) row (length s - at) i) × (the_count ≡ count_within table pool ranges (levels - 1) row i)
        tag_open {y} g w =
            let v = ends_with after parts.attrs parts.rest attrs_are false w in
            let x = rw v.0 at parts.holds in
            (parts.inside, ap (λ (z : List ℕ). content (element (levels - 1)) z y) (sym same_name) ∙ ap (content (element (levels - 1)) t.named) v.1 ∙ x, tag_fit g, count_is)

      pub tag_refused : refused ≡ ending_of (attributes after) → ⊥
      tag_refused w = ends_refused after parts.attrs parts.rest attrs_are w
