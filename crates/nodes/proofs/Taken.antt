-- What no fault means: the children stand under the nodes in order, each without a fault by its node, and no node that must come is passed over.
use Prim.Native.Nat.{ℕ, zero, suc, ◌≤◌, ◌<◌}
use mathlib.Core.Path.{◌≡◌, refl}
use mathlib.Core.Bool.{Bool, true, false, cond, ◌&&◌, ◌||◌}
use mathlib.Core.List.{List, [], ◌∷◌}
use mathlib.Core.Logic.{◌⊎◌, inl, inr, ⊎_elim}
use native.Mathlib.Omega.{arith}
use lib.Dec.{eqb, ltb, leb}
use borrow.Author.Tests.{leb-true, ltb-false, ltb-true, eqb-true}
use Rattle.laws.specs.Lists.{all, same}
use Rattle.laws.proofs.Truth.{and_left, and_right, either}
use Rattle.markup.specs.Bytes.{is_ws}
use Rattle.markup.specs.Tags.{Pair}
use Rattle.markup.specs.Elements.{Inside, Tree, mk, alone, kids}
use Rattle.markup.specs.Elements.Inside.{end, says, note, elem}
use Rattle.reading.specs.Everywhere.{Deeply}
use Rattle.reading.proofs.Cut.{never}
use Rattle.schema.specs.Schema.{Node, leaf, group, another, Nodes, none, ◌▸◌, particle_of}
use Rattle.schema.specs.Shape.{attrs_fit, leaf_fits, Seek, nowhere, here, may_come, seek, enough, first_fault, child_fault, fault_in, fault_of}
use Rattle.nodes.proofs.Same.{same_is}

-- an element without a fault by its node; p is what is known of every element in it
pub record Meets (p : Tree → Type 0) (n : Node) (c : Tree) : Type 0 where
  pub clean : fault_of n c ≡ 0
  pub known : Deeply p (alone c)

-- one more may come after k of a node
abbrev pub Room : Node → ℕ → Type 0
Room n k = ((particle_of n).most ≡ 0) ⊎ (k < (particle_of n).most)

-- children under the nodes still to come, of the first of which k have been
pub data Taken (p : Tree → Type 0) : Nodes → ℕ → List Tree → Type 0 where
  over : {k : ℕ} → Taken p none k []
  comes : {n : Node} {ns : Nodes} {k : ℕ} {c : Tree} {cs : List Tree} → c.named ≡ (particle_of n).named → Room n k → Meets p n c
      → Taken p (n ▸ ns) (suc k) cs → Taken p (n ▸ ns) k (c ∷ cs)
  passes : {n : Node} {ns : Nodes} {k : ℕ} {cs : List Tree} → (particle_of n).least ≤ k → Taken p ns 0 cs → Taken p (n ▸ ns) k cs

pub enough_taken : (p : Tree → Type 0) (ns : Nodes) (k : ℕ) → enough ns k ≡ true → Taken p ns k []
unfolding enough
enough_taken p none k e = over
enough_taken p (n ▸ ns) k e =
    passes (leb-true (particle_of n).least k (and_left (leb (particle_of n).least k) (enough ns 0) e))
    (enough_taken p ns 0 (and_right (leb (particle_of n).least k) (enough ns 0) e))

pub may_come_lem : (x : List ℕ) (n : Node) (k : ℕ) → may_come x (particle_of n) k ≡ true → (x ≡ (particle_of n).named) × Room n k
may_come_lem x n k e =
    let b = and_right (same x (particle_of n).named) (eqb (particle_of n).most 0 || ltb k (particle_of n).most) e in (
      same_is x (particle_of n).named (and_left (same x (particle_of n).named) (eqb (particle_of n).most 0 || ltb k (particle_of n).most) e),
      ⊎_elim (λ u. inl (eqb-true (particle_of n).most 0 u)) (λ u. inr (ltb-true k (particle_of n).most u)) (either (eqb (particle_of n).most 0) (ltb k (particle_of n).most) b),
    )

-- the node that a child is sought at, and those passed on the way
module _ (p : Tree → Type 0) (c : Tree) (cs : List Tree) where
  sought : (ns : Nodes) (k : ℕ) (m : Node) (ms : Nodes) (j : ℕ) → seek c.named ns k ≡ here m ms j → Meets p m c → Taken p (m ▸ ms) (suc j) cs
      → Taken p ns k (c ∷ cs)
  unfolding seek
  sought none k m ms j e h r = never cc
  sought (n ▸ ns) k m ms j e h r = go (may_come c.named (particle_of n) k) refl (ltb k (particle_of n).least) refl (λ q. sought ns 0 m ms j q h r) e
    where
      at : may_come c.named (particle_of n) k ≡ true → n ≡ m → ns ≡ ms → k ≡ j → Taken p (n ▸ ns) k (c ∷ cs)
      at a u v w = let b = may_come_lem c.named n k a in comes {n = n} {ns = ns} {k = k} {c = c} {cs = cs} b.0 b.1 (rw u h) (rw (u, v, w) r)

      go : (a : Bool) → may_come c.named (particle_of n) k ≡ a → (b : Bool) → ltb k (particle_of n).least ≡ b
          → (seek c.named ns 0 ≡ here m ms j → Taken p ns 0 (c ∷ cs))
          → cond a (here n ns k) (cond b nowhere (seek c.named ns 0)) ≡ here m ms j → Taken p (n ▸ ns) k (c ∷ cs)
      go true a b f i q = at a (cc) (cc) (cc)
      go false a true f i q = never cc
      go false a false f i q = passes (ltb-false k (particle_of n).least f) (i q)

both_none : (a b : ℕ) → first_fault a b ≡ 0 → (a ≡ 0) × (b ≡ 0)
both_none zero b e = (refl, e)
both_none (suc a) b e = absurd (omega arith)

pub cond_none : (t : Bool) (f z : ℕ) → 0 < z → cond t f z ≡ 0 → (t ≡ true) × (f ≡ 0)
cond_none true f z h e = (refl, e)
cond_none false f z h e = absurd (omega arith)

-- what stands in a group, piece by piece: each child is without a fault by the node that it was sought at
pub data Walked (p : Tree → Type 0) : Nodes → ℕ → Inside → Type 0 where
  ended : {ns : Nodes} {k : ℕ} → enough ns k ≡ true → Walked p ns k end
  told : {ns : Nodes} {k : ℕ} {t : List ℕ} {i : Inside} → Walked p ns k i → Walked p ns k (says t i)
  noted : {ns : Nodes} {k : ℕ} {i : Inside} → Walked p ns k i → Walked p ns k (note i)
  born : {ns : Nodes} {k y : ℕ} {n : List ℕ} {ps : List Pair} {j i : Inside} {m : Node} {ms : Nodes} {c : ℕ} → seek n ns k ≡ here m ms c → Meets p m (mk y n ps j)
      → Walked p (m ▸ ms) (suc c) i → Walked p ns k (elem y n ps j i)

module _ (p : Tree → Type 0) (far : (c : Tree) → p c → 0 < c.from) (z : ℕ) (away : 0 < z) where
  pub walked : (ns : Nodes) (k : ℕ) (i : Inside) → fault_in ns k z i ≡ 0 → Deeply p i → Walked p ns k i
  unfolding fault_in
  walked ns k end e h = ended (cond_none (enough ns k) 0 z away e).0
  walked ns k (says t i) e h = told (walked ns k i (cond_none (all is_ws t) (fault_in ns k z i) z away e).1 h)
  walked ns k (note i) e h = noted (walked ns k i e h)
  walked ns k (elem y n ps j i) e h = go (seek n ns k) refl (λ ms c f. walked ms c i f h.2) e
    where
      go : (s : Seek) → seek n ns k ≡ s → ((ms : Nodes) (c : ℕ) → fault_in ms c z i ≡ 0 → Walked p ms c i)
          → child_fault (λ ms. fault_in ms 0 y j) (λ ms c. fault_in ms c z i) z y ps j s ≡ 0 → Walked p ns k (elem y n ps j i)
      go nowhere s r f = absurd (omega arith)
      go (here (leaf d t) ms c) s r f =
          let b = both_none (cond (attrs_fit [] d.attrs ps && leaf_fits t j) 0 y) (fault_in (leaf d t ▸ ms) (suc c) z i) f in
          born s (record { clean = b.0; known = (h.0, h.1, tt) }) (r (leaf d t ▸ ms) (suc c) b.1)
      go (here (group d os) ms c) s r f =
          let b = both_none (cond (attrs_fit [] d.attrs ps) (fault_in os 0 y j) y) (fault_in (group d os ▸ ms) (suc c) z i) f in
          born s (record { clean = b.0; known = (h.0, h.1, tt) }) (r (group d os ▸ ms) (suc c) b.1)
      go (here (another d) ms c) s r f = born s (record { clean = refl; known = (h.0, h.1, tt) }) (r (another d ▸ ms) (suc c) f)

pub taken : (p : Tree → Type 0) {ns : Nodes} {k : ℕ} {i : Inside} → Walked p ns k i → Taken p ns k (kids i)
taken p (ended {ns = ns} {k = k} e) = enough_taken p ns k e
taken p (told r) = taken p r
taken p (noted r) = taken p r
taken p (born {ns = ns} {k = k} {y = y} {n = n} {ps = ps} {j = j} {i = i} {m = m} {ms = ms} {c = c} s h r) =
    sought p (mk y n ps j) (kids i) ns k m ms c s h (taken p r)
