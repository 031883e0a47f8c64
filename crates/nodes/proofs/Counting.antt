-- Counted elements: none where no node is marked, and in a group without a fault the sum over its children.
use Prim.Native.Nat.{ℕ, suc, ◌+◌, ◌≤◌, ◌<◌}
use mathlib.Core.Path.{◌≡◌, refl, ap, ◌∙◌}
use mathlib.Core.Bool.{Bool, true, false, cond, not, ◌&&◌, ◌||◌, false≢true}
use mathlib.Core.List.{List, [], ◌∷◌}
use native.Mathlib.Omega.{arith}
use lib.Dec.{eqb, ltb}
use lib.ListN.{length}
use borrow.Author.Tests.{eqb-true}
use Rattle.laws.specs.Lists.{any, same}
use Rattle.laws.proofs.Truth.{and_left, and_right}
use Rattle.markup.specs.Tags.{Pair}
use Rattle.markup.specs.Elements.{Inside, Tree, mk, kids}
use Rattle.markup.specs.Elements.Inside.{end, says, note, elem}
use Rattle.reading.proofs.Cut.{never}
use Rattle.schema.specs.Schema.{Particle, Node, leaf, group, another, Nodes, none, ◌▸◌, particle_of}
use Rattle.schema.specs.Shape.{Seek, nowhere, here, may_come, seek, named_in}
use Rattle.schema.specs.CountedElements.{marked, child_count, count_in, count_of}
use Rattle.nodes.specs.Lookup.{first_named, child_of}
use Rattle.nodes.proofs.Taken.{Meets, may_come_lem, Walked, ended, told, noted, born}
use Rattle.nodes.proofs.Present.{node_of, only, owed, Among, front, later, only_among, group_walked, child_there, child_most}

-- what holds of nodes and of those left after each holds of those from a child's own node on
module _ (x : List ℕ) (q : Nodes → Type 0) (less : (n : Node) (ns : Nodes) → q (n ▸ ns) → q ns) where
  found_at : (ns : Nodes) (k : ℕ) (m : Node) (ms : Nodes) (j : ℕ) → seek x ns k ≡ here m ms j → q ns → (x ≡ (particle_of m).named) × q (m ▸ ms)
  unfolding seek
  found_at none k m ms j e h = never cc
  found_at (n ▸ ns) k m ms j e h = go (may_come x (particle_of n) k) refl (ltb k (particle_of n).least) (λ f. found_at ns 0 m ms j f (less n ns h)) e
    where
      go : (a : Bool) → may_come x (particle_of n) k ≡ a → (b : Bool) → (seek x ns 0 ≡ here m ms j → (x ≡ (particle_of m).named) × q (m ▸ ms))
          → cond a (here n ns k) (cond b nowhere (seek x ns 0)) ≡ here m ms j → (x ≡ (particle_of m).named) × q (m ▸ ms)
      go true a b i f =
          let u : n ≡ m = cc in
          let v : ns ≡ ms = cc in
          (rw u at (may_come_lem x n k a).0, rw (u, v) at h)
      go false a true i f = never cc
      go false a false i f = i f

-- a child's count and that of what follows
child_count_lem : (y : ℕ) (x : List ℕ) (ps : List Pair) (j : Inside) (after : Nodes → ℕ → ℕ) (m : Node) (ms : Nodes) (c : ℕ)
    → child_count (λ os. count_in os 0 j) after (here m ms c) ≡ marked (particle_of m) + count_of m (mk y x ps j) + after (m ▸ ms) (suc c)
child_count_lem y x ps j after (leaf h t) ms c = omega arith
child_count_lem y x ps j after (group h os) ms c = refl
child_count_lem y x ps j after (another h) ms c = omega arith

-- ---- no node is marked

unfoldable mutual
  -- neither a node nor one in it
  pub blank : Node → Bool
  blank (leaf h t) = not h.counted
  blank (group h ns) = not h.counted && unmarked ns
  blank (another h) = not h.counted

  pub unmarked : Nodes → Bool
  unmarked none = true
  unmarked (n ▸ ns) = blank n && unmarked ns

-- no node in a node
abbrev pub hollow : Node → Bool
hollow (leaf h t) = true
hollow (group h ns) = unmarked ns
hollow (another h) = true

not_marked : (b : Bool) → not b ≡ true → ◌≡◌ {A = ℕ} (cond b 1 0) 0
not_marked true e = absurd (false≢true e)
not_marked false e = refl

blank_both : (n : Node) → blank n ≡ true → (marked (particle_of n) ≡ 0) × (hollow n ≡ true)
unfolding blank
blank_both (leaf h t) e = (not_marked h.counted e, refl)
blank_both (group h ns) e = (not_marked h.counted (and_left (not h.counted) (unmarked ns) e), and_right (not h.counted) (unmarked ns) e)
blank_both (another h) e = (not_marked h.counted e, refl)

unmarked_less : (n : Node) (ns : Nodes) → unmarked (n ▸ ns) ≡ true → unmarked ns ≡ true
unfolding unmarked
unmarked_less n ns e = and_right (blank n) (unmarked ns) e

-- WHERE NO NODE IS MARKED nothing is counted
pub count_none : (ns : Nodes) (k : ℕ) (i : Inside) → unmarked ns ≡ true → count_in ns k i ≡ 0
unfolding count_in unmarked
count_none ns k end e = refl
count_none ns k (says t i) e = count_none ns k i e
count_none ns k (note i) e = count_none ns k i e
count_none ns k (elem y n ps j i) e = go (seek n ns k) refl (λ os f. count_none os 0 j f) (λ os c f. count_none os c i f)
  where
    in_it : (m : Node) → hollow m ≡ true → ((os : Nodes) → unmarked os ≡ true → count_in os 0 j ≡ 0) → count_of m (mk y n ps j) ≡ 0
    in_it (leaf h t) f w = refl
    in_it (group h os) f w = w os f
    in_it (another h) f w = refl

    go : (s : Seek) → seek n ns k ≡ s → ((os : Nodes) → unmarked os ≡ true → count_in os 0 j ≡ 0) → ((os : Nodes) (c : ℕ) → unmarked os ≡ true → count_in os c i ≡ 0)
        → child_count (λ os. count_in os 0 j) (λ os c. count_in os c i) s ≡ 0
    go nowhere s w r = refl
    go (here m ms c) s w r =
        let f = (found_at n (λ os. unmarked os ≡ true) unmarked_less ns k m ms c s e).1 in
        let b = blank_both m (and_left (blank m) (unmarked ms) f) in
        let u = in_it m b.1 w in
        let v = r (m ▸ ms) (suc c) f in
        child_count_lem y n ps j (λ os c. count_in os c i) m ms c ∙ omega arith

pub hollow_none : (n : Node) (t : Tree) → hollow n ≡ true → count_of n t ≡ 0
hollow_none (leaf h x) t e = refl
hollow_none (group h ns) t e = count_none ns 0 t.inside e
hollow_none (another h) t e = refl

-- ---- a group without a fault

unfoldable pub sum_over : (Tree → ℕ) → List Tree → ℕ
sum_over f [] = 0
sum_over f (t ∷ ts) = f t + sum_over f ts

-- a child under its node adds as much as f says
abbrev Adds : (Tree → ℕ) → Nodes → Type 0
Adds f ns = (n : Node) → Among n ns → (c : Tree) → c.named ≡ (particle_of n).named → marked (particle_of n) + count_of n c ≡ f c

-- THE COUNT OF A GROUP WITHOUT A FAULT is the sum over its children
count_sum : (p : Tree → Type 0) (f : Tree → ℕ) {ns : Nodes} {k : ℕ} {i : Inside} → Walked p ns k i → Adds f ns → count_in ns k i ≡ sum_over f (kids i)
unfolding count_in sum_over
count_sum p f (ended e) a = refl
count_sum p f (told r) a = count_sum p f r a
count_sum p f (noted r) a = count_sum p f r a
count_sum p f (born {ns = ns} {k = k} {y = y} {n = n} {ps = ps} {j = j} {i = i} {m = m} {ms = ms} {c = c} s h r) a =
    let w = found_at n (Adds f) (λ o os g b u. g b (later u)) ns k m ms c s a in
    let u = w.1 m front (mk y n ps j) w.0 in
    let v = count_sum p f r w.1 in
    rw s (child_count_lem y n ps j (λ os c. count_in os c i) m ms c ∙ omega arith)

-- a test of each node
unfoldable pub each_node : (Node → Bool) → Nodes → Bool
each_node q none = true
each_node q (n ▸ ns) = q n && each_node q ns

each_at : (q : Node → Bool) {n : Node} {ns : Nodes} → Among n ns → each_node q ns ≡ true → q n ≡ true
unfolding each_node
each_at q {n = n} (front {ns = ns}) e = and_left (q n) (each_node q ns) e
each_at q (later {m = m} {ns = ns} a) e = each_at q a (and_right (q m) (each_node q ns) e)

-- the nodes that are marked are those of some names, and no node in them is
abbrev pub marks_named : (List ℕ → Bool) → Node → Bool
marks_named b n = eqb (marked (particle_of n)) (cond (b (particle_of n).named) 1 0) && hollow n

-- no node is marked, and only in those of a name there may be any
abbrev pub marks_in : List ℕ → Node → Bool
marks_in x n = not (particle_of n).counted && (same x (particle_of n).named || hollow n)

module _ (x : List ℕ) (f : Tree → ℕ) where
  sum_none : (cs : List Tree) → length (named_in x cs) ≤ 0 → sum_over (λ c. cond (same x c.named) (f c) 0) cs ≡ 0
  unfolding named_in sum_over
  sum_none [] l = refl
  sum_none (c ∷ cs) l = go (same x c.named) (sum_none cs) l
    where
      go : (b : Bool) → (length (named_in x cs) ≤ 0 → sum_over (λ c. cond (same x c.named) (f c) 0) cs ≡ 0) → length (cond b (c ∷ named_in x cs) (named_in x cs)) ≤ 0
          → cond b (f c) 0 + sum_over (λ c. cond (same x c.named) (f c) 0) cs ≡ 0
      go true i l = absurd (omega arith)
      go false i l = let u = i l in omega arith

  -- where one child has the name it is that child's
  sum_one : (cs : List Tree) → any (λ c. same x c.named) cs ≡ true → length (named_in x cs) ≤ 1 → sum_over (λ c. cond (same x c.named) (f c) 0) cs ≡ f (first_named x cs)
  unfolding any named_in sum_over first_named
  sum_one [] e l = absurd (false≢true e)
  sum_one (c ∷ cs) e l = go (same x c.named) (sum_one cs) e l
    where
      go : (b : Bool)
          → (any (λ c. same x c.named) cs ≡ true → length (named_in x cs) ≤ 1 → sum_over (λ c. cond (same x c.named) (f c) 0) cs ≡ f (first_named x cs))
          → b || any (λ c. same x c.named) cs ≡ true → length (cond b (c ∷ named_in x cs) (named_in x cs)) ≤ 1
          → cond b (f c) 0 + sum_over (λ c. cond (same x c.named) (f c) 0) cs ≡ f (cond b c (first_named x cs))
      go true i e l = let u = sum_none cs (omega arith) in omega arith
      go false i e l = let u = i e l in omega arith

module _ (p : Tree → Type 0) (far : (c : Tree) → p c → 0 < c.from) {h : Particle} {ns : Nodes} {t : Tree} (m : Meets p (group h ns) t) where
  -- as many as there are children of the names
  pub count_named : (b : List ℕ → Bool) → each_node (marks_named b) ns ≡ true → count_in ns 0 t.inside ≡ sum_over (λ c. cond (b c.named) 1 0) (kids t.inside)
  count_named b e = count_sum p (λ c. cond (b c.named) 1 0) (group_walked p far m) adds
    where
      adds : Adds (λ c. cond (b c.named) 1 0) ns
      adds n a c u =
          let w = each_at (marks_named b) a e in
          let k = eqb-true (marked (particle_of n)) (cond (b (particle_of n).named) 1 0) (and_left (eqb (marked (particle_of n)) (cond (b (particle_of n).named) 1 0)) (hollow n) w) in
          let z = hollow_none n c (and_right (eqb (marked (particle_of n)) (cond (b (particle_of n).named) 1 0)) (hollow n) w) in
          let v : ◌≡◌ {A = ℕ} (cond (b c.named) 1 0) (cond (b (particle_of n).named) 1 0) = rw u in
          omega arith

  -- all that is counted stands in one child, which must come, once
  pub count_child : (x : List ℕ) (n : Node) → node_of x ns ≡ only n → owed x ns 0 ≡ true → (particle_of n).most ≡ 1 → each_node (marks_in x) ns ≡ true
      → count_in ns 0 t.inside ≡ count_of n (child_of x t)
  count_child x n e o l k =
      count_sum p (λ c. cond (same x c.named) (count_of n c) 0) (group_walked p far m) adds
      ∙ sum_one x (count_of n) (kids t.inside) (child_there p far m x o) (let w = child_most p far m x n e (omega arith) in omega arith)
    where
      adds : Adds (λ c. cond (same x c.named) (count_of n c) 0) ns
      adds o a c u = go (same x (particle_of o).named) refl (and_right (not (particle_of o).counted) (same x (particle_of o).named || hollow o) w)
        where
          w : marks_in x o ≡ true
          w = each_at (marks_in x) a k

          z : marked (particle_of o) ≡ 0
          z = not_marked (particle_of o).counted (and_left (not (particle_of o).counted) (same x (particle_of o).named || hollow o) w)

          go : (b : Bool) → same x (particle_of o).named ≡ b → b || hollow o ≡ true → marked (particle_of o) + count_of o c ≡ cond (same x c.named) (count_of n c) 0
          go true v f =
              let q : count_of o c ≡ count_of n c = ap (λ (y : Node). count_of y c) (only_among x e a v) in
              let s : cond (same x c.named) (count_of n c) 0 ≡ count_of n c = rw (u, v) in
              omega (arith, z)
          go false v f =
              let q = hollow_none o c f in
              let s : cond (same x c.named) (count_of n c) 0 ≡ 0 = rw (u, v) in
              omega (arith, z)
