-- The nodes of a table's rows one after the other: where a child stands among them, and whether none that must come is left.
use Prim.Native.Nat.{ℕ, zero, suc, ◌+◌, ◌<◌, ◌≤◌}
use mathlib.Core.Path.{◌≡◌, refl, ap, ◌∙◌}
use mathlib.Core.Bool.{Bool, true, false, cond, ◌&&◌, ◌||◌, false≢true}
use mathlib.Core.List.{List, [], ◌∷◌}
use native.Mathlib.Nat.{add-zero, sub-zero}
use native.Mathlib.Omega.{arith}
use lib.Dec.{eqb, ltb, leb}
use borrow.Author.Tests.{eqb-true, lt-ltb, le-ltb, le-leb, lt-leb}
use Rattle.laws.specs.Lists.{same}
use Rattle.laws.proofs.Truth.{and_left, and_right}
use Rattle.schema.specs.Texts.{Texts}
use Rattle.schema.specs.Schema.{Particle, Node, leaf, group, another, Nodes, none, ◌▸◌, particle_of}
use Rattle.schema.specs.Shape.{nowhere, here, may_come, seek, enough}
use Rattle.schema.specs.Table.{least_cell, most_cell, kind_cell, first_cell, many_cell, group_kind, another_kind, cell, name_at, texts_of, head_at, node_at}
use Rattle.schema.specs.View.{nodes_from, nodes_of}
use Rattle.schema.proofs.Ranges.{one_left, none_left}

-- the test of two names tells that they are one
pub same_is : (x y : List ℕ) → same x y ≡ true → x ≡ y
unfolding same
same_is [] [] e = refl
same_is [] (b ∷ y) e = absurd (false≢true e)
same_is (a ∷ x) [] e = absurd (false≢true e)
same_is (a ∷ x) (b ∷ y) e =
    let j : a ≡ b = eqb-true a b (and_left (eqb a b) (same x y) e) in
    let i : x ≡ y = same_is x y (and_right (eqb a b) (same x y) e) in
    cc

-- a child has the name of the node that it is found at
seek-named : (x : List ℕ) (ns : Nodes) (k : ℕ) {nd : Node} {ms : Nodes} {c : ℕ} → here nd ms c ≡ seek x ns k → x ≡ (particle_of nd).named
unfolding seek
seek-named x none k e = absurd (let z : ◌≡◌ {A = ℕ} 0 1 = cc in omega arith)
seek-named x (n ▸ ns) k {nd} {ms} {c} e = go (may_come x (particle_of n) k) refl (ltb k (particle_of n).least) (seek-named x ns 0) e
  where
    go : (b : Bool) → may_come x (particle_of n) k ≡ b → (l : Bool) → (here nd ms c ≡ seek x ns 0 → x ≡ (particle_of nd).named) → here nd ms c ≡ cond b (here n ns k) (cond l nowhere (seek x ns 0)) → x ≡ (particle_of nd).named
    go true f l h e =
        let q : n ≡ nd = cc in
        same_is x (particle_of n).named (and_left (same x (particle_of n).named) (eqb (particle_of n).most 0 || ltb k (particle_of n).most) f) ∙ ap (λ (n : Node). (particle_of n).named) q
    go false f true h e = absurd (let z : ◌≡◌ {A = ℕ} 0 1 = cc in omega arith)
    go false f false h e = h e

module _ (table pool ranges : List ℕ) where
  by_head : (p q : Bool) (h : Particle) (ns : Nodes) (x : Texts) → particle_of (cond p (group h ns) (cond q (another h) (leaf h x))) ≡ h
  by_head true q h ns x = refl
  by_head false true h ns x = refl
  by_head false false h ns x = refl

  pub head_is : (d row : ℕ) → particle_of (node_at table pool ranges d row) ≡ head_at table pool ranges row
  unfolding node_at
  head_is zero row = by_head (eqb (cell table pool ranges row kind_cell) group_kind) (eqb (cell table pool ranges row kind_cell) another_kind) (head_at table pool ranges row) none (texts_of table pool ranges row)
  head_is (suc d) row =
      by_head (eqb (cell table pool ranges row kind_cell) group_kind) (eqb (cell table pool ranges row kind_cell) another_kind) (head_at table pool ranges row)
      (nodes_of table pool ranges d row) (texts_of table pool ranges row)

  pub spot_named : (d row : ℕ) {x : List ℕ} (ns : Nodes) (k : ℕ) {ms : Nodes} {c : ℕ} → here (node_at table pool ranges d row) ms c ≡ seek x ns k → x ≡ name_at table pool [] row
  unfolding head_at
  spot_named d row {x} ns k e = seek-named x ns k e ∙ ap (λ (h : Particle). h.named) (head_is d row)

  pub may_come_lem : (row k : ℕ) (x : List ℕ) {most : ℕ} {b : Bool} → most ≡ cell table pool ranges row most_cell → b ≡ same x (name_at table pool ranges row)
      → (b && (eqb most 0 || ltb k most)) ≡ may_come x (head_at table pool ranges row) k
  unfolding head_at
  may_come_lem row k x e f = rw (← e, ← f)

  -- the rows of a row's children, of which none is passed
  pub nodes_start : (d row : ℕ) {first n : ℕ} → first ≡ cell table pool ranges row first_cell → n ≡ cell table pool ranges row many_cell → nodes_of table pool ranges d row ≡ nodes_from table pool ranges d first n 0
  nodes_start d row {first} {n} e f = rw (add-zero first, sub-zero n, e, f)

  module _ (d first n : ℕ) where
    -- j rows are passed
    abbrev after : ℕ → Nodes
    after j = nodes_from table pool ranges d first n j

    pub nodes_end : (j : ℕ) → n ≤ j → after j ≡ none
    nodes_end j h = rw (none_left n j h)

    pub nodes_turn : (j : ℕ) → j < n → after j ≡ node_at table pool ranges d (first + j) ▸ after (j + 1)
    nodes_turn j h =
        let e : suc (first + j) ≡ first + (j + 1) = omega arith in
        rw (one_left n j h, e)

    module _ (x : List ℕ) (j k : ℕ) where
      pub seek_end : n ≤ j → nowhere ≡ seek x (after j) k
      unfolding seek
      seek_end h = rw (nodes_end j h)

      seek_turn : j < n
          → seek x (after j) k
          ≡ cond (may_come x (head_at table pool ranges (first + j)) k) (here (node_at table pool ranges d (first + j)) (after (j + 1)) k)
          (cond (ltb k (head_at table pool ranges (first + j)).least) nowhere (seek x (after (j + 1)) 0))
      unfolding seek
      seek_turn h = rw (nodes_turn j h, head_is d (first + j))

      module _ {b : Bool} (h : j < n) (e : b ≡ may_come x (head_at table pool ranges (first + j)) k) where
        pub seek-here : b ≡ true → here (node_at table pool ranges d (first + j)) (after (j + 1)) k ≡ seek x (after j) k
        seek-here f = rw (seek_turn h, ← e, f)

        pub seek_no : {least : ℕ} → b ≡ false → least ≡ cell table pool ranges (first + j) least_cell → k < least → nowhere ≡ seek x (after j) k
        unfolding head_at
        seek_no {least} f l z = rw (seek_turn h, ← e, f, ← l, lt-ltb k least z)

        pub seek_on : {least : ℕ} → b ≡ false → least ≡ cell table pool ranges (first + j) least_cell → least ≤ k → seek x (after j) k ≡ seek x (after (j + 1)) 0
        unfolding head_at
        seek_on {least} f l z = rw (seek_turn h, ← e, f, ← l, le-ltb k least z)

    module _ (j k : ℕ) where
      pub enough_end : n ≤ j → true ≡ enough (after j) k
      unfolding enough
      enough_end h = rw (nodes_end j h)

      enough_turn : {least : ℕ} → j < n → least ≡ cell table pool ranges (first + j) least_cell → enough (after j) k ≡ (leb least k && enough (after (j + 1)) 0)
      unfolding enough head_at
      enough_turn h l = rw (nodes_turn j h, head_is d (first + j), ← l)

      pub enough_no : {least : ℕ} → j < n → least ≡ cell table pool ranges (first + j) least_cell → k < least → false ≡ enough (after j) k
      enough_no {least} h l z = rw (enough_turn h l, lt-leb least k z)

      pub enough_on : {least : ℕ} → j < n → least ≡ cell table pool ranges (first + j) least_cell → least ≤ k → enough (after j) k ≡ enough (after (j + 1)) 0
      enough_on {least} h l z = rw (enough_turn h l, le-leb least k z)
