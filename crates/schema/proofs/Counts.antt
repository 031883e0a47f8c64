-- Counted elements in a group, child after child, and in an element by its row.
use Prim.Native.Nat.{ℕ, zero, suc, ◌+◌, ◌<◌}
use mathlib.Core.Path.{◌≡◌, refl, sym, ap, ◌∙◌}
use mathlib.Core.Bool.{Bool, true, false, cond, not, ◌&&◌}
use mathlib.Core.List.{List, []}
use native.Mathlib.Numerals.{add-one}
use native.Mathlib.Omega.{arith}
use lib.Dec.{eqb}
use lib.ListN.{drop}
use borrow.Author.Tests.{ne_eqb}
use mir.Val.{bool_byte}
use Rattle.markup.specs.NamesAndValues.Read.{read}
use Rattle.markup.specs.Elements.{Inside, Tree, content, element, kid_on}
use Rattle.markup.specs.Elements.Inside.{end}
use Rattle.schema.specs.Texts.{Texts}
use Rattle.schema.specs.Schema.{Particle, Node, leaf, group, another, Nodes, none, ◌▸◌, particle_of}
use Rattle.schema.specs.Shape.{here, seek, enough, fault_in, fault_of}
use Rattle.schema.specs.CountedElements.{marked, child_count, count_in, count_of}
use Rattle.schema.specs.Table.{kind_cell, number_cell, first_cell, many_cell, group_kind, another_kind, cell, name_at, texts_of, head_at, node_at}
use Rattle.std.specs.Prelude.{Some}
use Rattle.schema.specs.declared.children.Spot.{Spot}
use Rattle.schema.specs.declared.steps.Step.TheVariants as step
use Rattle.schema.specs.View.{nodes_from, nodes_of, view_spot, SaysStep}
use Rattle.schema.proofs.Heads.{head_is, nodes_start, nodes_turn}
use Rattle.schema.proofs.Group.{Quiet, Walk, walk_past, walk_child}

-- so many before, and those in what is left
abbrev pub count_on : ℕ → Nodes → ℕ → Inside → ℕ
count_on total ns k i = total + count_in ns k i

pub count_quiet : (total : ℕ) (ns : Nodes) (k : ℕ) → Quiet (count_on total ns k)
unfolding count_in
count_quiet total ns k = record { texts = λ t i. refl; notes = λ i. refl }

count_end : (total : ℕ) (ns : Nodes) (k : ℕ) {x : ℕ} → count_on total ns k end ≡ x → total ≡ x
unfolding count_in
count_end total ns k e = omega arith

child_is : (nd : Node) (ns : Nodes) (c : ℕ) (t : Tree) (i : Inside)
    → child_count (λ ms. count_in ms 0 t.inside) (λ ms c. count_in ms c i) (here nd ns c) ≡ marked (particle_of nd) + count_of nd t + count_in (nd ▸ ns) (suc c) i
child_is (leaf h x) ns c t i = omega arith
child_is (group h ms) ns c t i = refl
child_is (another h) ns c t i = omega arith

module _ (ns : Nodes) (k : ℕ) (t : Tree) {nd : Node} {ms : Nodes} {c : ℕ} (e : here nd ms c ≡ seek t.named ns k) where
  kid_count : (i : Inside) → count_in ns k (kid_on t i) ≡ marked (particle_of nd) + count_of nd t + count_in (nd ▸ ms) (suc c) i
  unfolding count_in
  kid_count i = rw (← e) (child_is nd ms c t i)

  -- a child is counted with those in it
  count_child : (total : ℕ) {held mark : ℕ} → held ≡ count_of nd t → mark ≡ marked (particle_of nd) → (i : Inside) → count_on total ns k (kid_on t i) ≡ count_on (total + held + mark) (nd ▸ ms) (suc c) i
  count_child total u v i = let w = kid_count i in omega arith

module _ (table pool ranges : List ℕ) where
  row-marked : (d row : ℕ) {mark : ℕ} → mark ≡ marked (head_at table pool ranges row) → mark ≡ marked (particle_of (node_at table pool ranges d row))
  row-marked d row e = e ∙ rw (head_is table pool ranges d row)

  marked_is : (row : ℕ) → marked (head_at table pool ranges row) ≡ cond (eqb (cell table pool ranges row kind_cell) group_kind && not (eqb (cell table pool ranges row number_cell) 0)) 1 0
  unfolding head_at
  marked_is row = refl

  module _ (row : ℕ) where
    pub marked_other : (cell table pool ranges row kind_cell ≡ group_kind → ⊥) → 0 ≡ marked (head_at table pool ranges row)
    marked_other h = rw (marked_is row, ne_eqb (cell table pool ranges row kind_cell) group_kind h)

    pub marked_group : {say : ℕ} → cell table pool ranges row kind_cell ≡ group_kind → say ≡ cell table pool ranges row number_cell → bool_byte (not (eqb say 0)) ≡ marked (head_at table pool ranges row)
    marked_group {say} h v = rw (marked_is row, h, ← v) (bool_is (not (eqb say 0)))
      where
        bool_is : (b : Bool) → bool_byte b ≡ cond b 1 0
        bool_is true = refl
        bool_is false = refl

  -- counted elements in what stands in an element of a row
  abbrev pub count_within : ℕ → ℕ → Inside → ℕ
  count_within d row i = cond (eqb (cell table pool ranges row kind_cell) group_kind) (count_in (nodes_of table pool ranges d row) 0 i) 0

  by_kind : (p q : Bool) (h : Particle) (ns : Nodes) (x : Texts) (t : Tree) → count_of (cond p (group h ns) (cond q (another h) (leaf h x))) t ≡ cond p (count_in ns 0 t.inside) 0
  by_kind true q h ns x t = refl
  by_kind false true h ns x t = refl
  by_kind false false h ns x t = refl

  pub node_count : (d row : ℕ) (t : Tree) → count_of (node_at table pool ranges (suc d) row) t ≡ count_within d row t.inside
  unfolding node_at
  node_count d row t =
      by_kind (eqb (cell table pool ranges row kind_cell) group_kind) (eqb (cell table pool ranges row kind_cell) another_kind) (head_at table pool ranges row)
      (nodes_of table pool ranges d row) (texts_of table pool ranges row) t

  pub another_count : (row d : ℕ) (t : Tree) → (cell table pool ranges row kind_cell ≡ group_kind → ⊥) → 0 ≡ count_of (node_at table pool ranges d row) t
  unfolding node_at
  another_count row d t h = go d
    where
      p : eqb (cell table pool ranges row kind_cell) group_kind ≡ false
      p = ne_eqb (cell table pool ranges row kind_cell) group_kind h

      go : (d : ℕ) → 0 ≡ count_of (node_at table pool ranges d row) t
      go zero = rw p (sym (by_kind false (eqb (cell table pool ranges row kind_cell) another_kind) (head_at table pool ranges row) none (texts_of table pool ranges row) t))
      go (suc d) = sym (node_count d row t ∙ rw p)

  pub empty_count : (d row : ℕ) → 0 ≡ count_within d row end
  unfolding count_in
  empty_count d row = go (eqb (cell table pool ranges row kind_cell) group_kind)
    where
      go : (b : Bool) → ◌≡◌ {A = ℕ} 0 (cond b 0 0)
      go true = refl
      go false = refl

-- ---- the walk that counts

-- what is left of a group that opened with z bytes left, by its n rows from the first on, of which `item` are passed and k of the next have been
abbrev pub Counting : List ℕ → List ℕ → List ℕ → ℕ → ℕ → ℕ → ℕ → ℕ → ℕ → ℕ → List ℕ → List ℕ → ℕ → ℕ → List ℕ → Type 0
Counting table pool ranges d first n item k z total name m fault count l =
    Walk d name m fault count (nodes_from table pool ranges d first n item) k z (count_on total (nodes_from table pool ranges d first n item) k) l

module _ (table pool ranges : List ℕ) (d : ℕ) {name m : List ℕ} {fault count : ℕ} where
  pub count_start : (row : ℕ) {first n : ℕ} → first ≡ cell table pool ranges row first_cell → n ≡ cell table pool ranges row many_cell → {l : List ℕ} (z : ℕ) (i : Inside)
      → content (element d) name l ≡ read i m → fault ≡ fault_in (nodes_of table pool ranges d row) 0 z i → count ≡ count_in (nodes_of table pool ranges d row) 0 i
      → Counting table pool ranges d first n 0 0 z 0 name m fault count l
  count_start row e f z i r p q =
      let s = nodes_start table pool ranges d row e f in
      let w = sym (q ∙ ap (λ (ns : Nodes). count_in ns 0 i) s) in
      record { left = i; reads = r; faulty = sym (p ∙ ap (λ (ns : Nodes). fault_in ns 0 z i) s); tells = omega arith }

  module _ (s : List ℕ) (at first n item k z total : ℕ) (o : Counting table pool ranges d first n item k z total name m fault count (drop at s)) where
    pub count_past : o.left ≡ end → enough (nodes_from table pool ranges d first n item) k ≡ true → (fault ≡ 0) × (total ≡ count)
    count_past e h = let w = walk_past o e h in (w.0, count_end total (nodes_from table pool ranges d first n item) k w.1)

    -- a child without fault
    pub count_next : (p : Spot) (x : SaysStep s at d name (nodes_from table pool ranges d first n item) k (view_spot table pool ranges d first n) o.left m (Some (step.Child p))) → p.item < n → {held mark : ℕ} {q : List ℕ}
        → (x.0.named ≡ name_at table pool [] (first + p.item) → (fault_of (node_at table pool ranges d (first + p.item)) x.0 ≡ 0) × (held ≡ count_of (node_at table pool ranges d (first + p.item)) x.0) × (q ≡ x.2))
        → mark ≡ marked (head_at table pool ranges (first + p.item)) → Counting table pool ranges d first n p.item (p.count + 1) z (total + held + mark) name m fault count q
    count_next p x h {held} {mark} v u =
        walk_child table pool ranges s d at first n item o p x h (count_on (total + held + mark) (nodes_from table pool ranges d first n p.item) (p.count + 1)) v
        (λ e. rw (nodes_turn table pool ranges d first n p.item h, add-one p.count) (count_child (nodes_from table pool ranges d first n item) k x.0 x.6 total e (row-marked table pool ranges d (first + p.item) u) x.1))
