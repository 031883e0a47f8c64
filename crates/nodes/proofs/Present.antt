-- A child by its name, in a group without a fault: it is without a fault by the node of its name, it is there where the node must come, and no more of
-- them are there than may come.
use Prim.Native.Nat.{ℕ, suc, ◌+◌, ◌≤◌, ◌<◌}
use mathlib.Core.Path.{◌≡◌, refl, sym, ◌∙◌}
use mathlib.Core.Bool.{Bool, true, false, cond, ◌||◌, false≢true, true≢false}
use mathlib.Core.List.{List, [], ◌∷◌}
use mathlib.Core.Logic.{⊎_elim}
use native.Mathlib.Omega.{arith}
use lib.Dec.{ltb}
use lib.ListN.{length}
use borrow.Author.Tests.{ltb-true, lt-ltb}
use Rattle.laws.specs.Lists.{any, same}
use Rattle.laws.proofs.Truth.{or_left, or_right, cond_both}
use Rattle.markup.specs.Elements.{Tree, kids}
use Rattle.reading.specs.Everywhere.{Every}
use Rattle.reading.proofs.Cut.{never}
use Rattle.schema.specs.Schema.{Particle, Node, group, Nodes, none, ◌▸◌, particle_of}
use Rattle.schema.specs.Shape.{attrs_fit, fault_in, named_in}
use Rattle.nodes.specs.Lookup.{missing, first_named, child_of, has_child}
use Rattle.nodes.proofs.Taken.{Meets, Taken, over, comes, passes, Walked, walked, taken, cond_none}

-- ---- the node of a name, where there is one alone

pub data Sought : Type 0 where
  absent several : Sought
  only : Node → Sought

abbrev pub first : Node → Sought → Sought
first n absent = only n
first n several = several
first n (only m) = several

unfoldable pub node_of : List ℕ → Nodes → Sought
node_of x none = absent
node_of x (n ▸ ns) = cond (same x (particle_of n).named) (first n (node_of x ns)) (node_of x ns)

-- the first node of the name must still come, where k of the first node have been
unfoldable pub owed : List ℕ → Nodes → ℕ → Bool
owed x none k = false
owed x (n ▸ ns) k = cond (same x (particle_of n).named) (ltb k (particle_of n).least) (owed x ns 0)

first_is : (m n : Node) (s : Sought) → first m s ≡ only n → (m ≡ n) × (s ≡ absent)
first_is m n absent e = (cc, refl)
first_is m n several e = never cc
first_is m n (only o) e = never cc

first_there : (m : Node) (s : Sought) → first m s ≡ absent → ⊥
first_there m absent e = never cc
first_there m several e = never cc
first_there m (only o) e = never cc

-- a node that is the only one of its name, and must come, is owed
pub owed-only : (x : List ℕ) (ns : Nodes) (n : Node) → node_of x ns ≡ only n → 0 < (particle_of n).least → owed x ns 0 ≡ true
unfolding node_of owed
owed-only x none n e h = never cc
owed-only x (m ▸ ns) n e h = go (same x (particle_of m).named) (λ q. owed-only x ns n q h) e
  where
    go : (b : Bool) → (node_of x ns ≡ only n → owed x ns 0 ≡ true) → cond b (first m (node_of x ns)) (node_of x ns) ≡ only n → cond b (ltb 0 (particle_of m).least) (owed x ns 0) ≡ true
    go true i q = rw (first_is m n (node_of x ns) q).0 (lt-ltb 0 (particle_of n).least h)
    go false i q = i q

-- of no name: nothing is asked
none_named : (x : List ℕ) (q : Tree → Type 0) (cs : List Tree) → any (λ c. same x c.named) cs ≡ false → Every (λ c. same x c.named ≡ true → q c) cs
unfolding any
none_named x q [] e = tt
none_named x q (c ∷ cs) e =
    (λ u. absurd (true≢false (sym u ∙ or_left (same x c.named) (any (λ c. same x c.named) cs) e)), none_named x q cs (or_right (same x c.named) (any (λ c. same x c.named) cs) e))

module _ (p : Tree → Type 0) (x : List ℕ) where
  -- no child has a name that no node has
  pub no_child : {ns : Nodes} {k : ℕ} {cs : List Tree} → Taken p ns k cs → node_of x ns ≡ absent → any (λ c. same x c.named) cs ≡ false
  unfolding node_of any
  no_child over e = refl
  no_child (comes {n = n} {ns = ns} {c = c} {cs = cs} a o m r) e = go (same x (particle_of n).named) refl (no_child r e) e
    where
      go : (b : Bool) → same x (particle_of n).named ≡ b → any (λ c. same x c.named) cs ≡ false
          → cond b (first n (node_of x ns)) (node_of x ns) ≡ absent → same x c.named || any (λ c. same x c.named) cs ≡ false
      go true u i q = absurd (first_there n (node_of x ns) q)
      go false u i q = rw (a, u) i
  no_child (passes {n = n} {ns = ns} {cs = cs} l r) e = go (same x (particle_of n).named) (no_child r) e
    where
      go : (b : Bool) → (node_of x ns ≡ absent → any (λ c. same x c.named) cs ≡ false)
          → cond b (first n (node_of x ns)) (node_of x ns) ≡ absent → any (λ c. same x c.named) cs ≡ false
      go true i q = absurd (first_there n (node_of x ns) q)
      go false i q = i q

  -- the children of a name that one node has are without a fault by that node
  pub by_node : {ns : Nodes} {k : ℕ} {cs : List Tree} (n : Node) → Taken p ns k cs → node_of x ns ≡ only n
      → Every (λ c. same x c.named ≡ true → Meets p n c) cs
  unfolding node_of
  by_node n over e = tt
  by_node n (comes {n = m} {ns = ns} {c = c} {cs = cs} a o h r) e = (λ u. go (rw a at u) e, by_node n r e)
    where
      go : same x (particle_of m).named ≡ true → cond (same x (particle_of m).named) (first m (node_of x ns)) (node_of x ns) ≡ only n → Meets p n c
      go u q = let f = first_is m n (node_of x ns) (rw u at q) in rw f.0 at h
  by_node n (passes {n = m} {ns = ns} {cs = cs} l r) e = go (same x (particle_of m).named) (by_node n r) e
    where
      go : (b : Bool) → (node_of x ns ≡ only n → Every (λ c. same x c.named ≡ true → Meets p n c) cs)
          → cond b (first m (node_of x ns)) (node_of x ns) ≡ only n → Every (λ c. same x c.named ≡ true → Meets p n c) cs
      go true i q = none_named x (Meets p n) cs (no_child r (first_is m n (node_of x ns) q).1)
      go false i q = i q

  -- a node that must come has a child of its name
  pub must_come : {ns : Nodes} {k : ℕ} {cs : List Tree} → Taken p ns k cs → owed x ns k ≡ true → any (λ c. same x c.named) cs ≡ true
  unfolding owed any
  must_come over e = absurd (false≢true e)
  must_come (comes {n = n} {ns = ns} {k = k} {c = c} {cs = cs} a o h r) e = go (same x (particle_of n).named) refl (must_come r) e
    where
      go : (b : Bool) → same x (particle_of n).named ≡ b → (owed x (n ▸ ns) (suc k) ≡ true → any (λ c. same x c.named) cs ≡ true)
          → cond b (ltb k (particle_of n).least) (owed x ns 0) ≡ true → same x c.named || any (λ c. same x c.named) cs ≡ true
      go true u i q = rw (a, u)
      go false u i q = rw (a, u) (i (rw u q))
  must_come (passes {n = n} {ns = ns} {k = k} {cs = cs} l r) e = go (same x (particle_of n).named) (must_come r) e
    where
      go : (b : Bool) → (owed x ns 0 ≡ true → any (λ c. same x c.named) cs ≡ true)
          → cond b (ltb k (particle_of n).least) (owed x ns 0) ≡ true → any (λ c. same x c.named) cs ≡ true
      go true i q = let g = ltb-true k (particle_of n).least q in absurd (omega arith)
      go false i q = i q

-- ---- a node among nodes

pub data Among (n : Node) : Nodes → Type 0 where
  front : {ns : Nodes} → Among n (n ▸ ns)
  later : {m : Node} {ns : Nodes} → Among n ns → Among n (m ▸ ns)

none_among : (x : List ℕ) {m : Node} {ns : Nodes} → node_of x ns ≡ absent → Among m ns → same x (particle_of m).named ≡ true → ⊥
unfolding node_of
none_among x {m = m} e (front {ns = ns}) u = first_there m (node_of x ns) (rw u at e)
none_among x e (later {m = o} {ns = ns} a) u = go (same x (particle_of o).named) (λ q. none_among x q a u) e
  where
    go : (b : Bool) → (node_of x ns ≡ absent → ⊥) → cond b (first o (node_of x ns)) (node_of x ns) ≡ absent → ⊥
    go true i q = first_there o (node_of x ns) q
    go false i q = i q

-- the node of a name is the only one of it
pub only_among : (x : List ℕ) {m n : Node} {ns : Nodes} → node_of x ns ≡ only n → Among m ns → same x (particle_of m).named ≡ true → m ≡ n
unfolding node_of
only_among x {m = m} {n = n} e (front {ns = ns}) u = (first_is m n (node_of x ns) (rw u at e)).0
only_among x {m = m} {n = n} e (later {m = o} {ns = ns} a) u = go (same x (particle_of o).named) (λ q. only_among x q a u) e
  where
    go : (b : Bool) → (node_of x ns ≡ only n → m ≡ n) → cond b (first o (node_of x ns)) (node_of x ns) ≡ only n → m ≡ n
    go true i q = absurd (none_among x (first_is o n (node_of x ns) q).1 a u)
    go false i q = i q

-- how many of the name have come, where k of the first node have
unfoldable pub came : List ℕ → Nodes → ℕ → ℕ
came x none k = 0
came x (n ▸ ns) k = cond (same x (particle_of n).named) k 0

came_none : (x : List ℕ) (ns : Nodes) → came x ns 0 ≡ 0
unfolding came
came_none x none = refl
came_none x (n ▸ ns) = sym (cond_both (same x (particle_of n).named) 0)

module _ (p : Tree → Type 0) (x : List ℕ) where
  no_more : (cs : List Tree) → any (λ c. same x c.named) cs ≡ false → length (named_in x cs) ≡ 0
  unfolding any named_in
  no_more [] e = refl
  no_more (c ∷ cs) e =
      rw (or_left (same x c.named) (any (λ c. same x c.named) cs) e)
      (no_more cs (or_right (same x c.named) (any (λ c. same x c.named) cs) e))

  -- no more children of a node's name than may come
  pub at_most : {ns : Nodes} {k : ℕ} {cs : List Tree} (n : Node) → Taken p ns k cs → node_of x ns ≡ only n → 0 < (particle_of n).most
      → came x ns k ≤ (particle_of n).most → came x ns k + length (named_in x cs) ≤ (particle_of n).most
  unfolding node_of came named_in
  at_most n over e h l = omega arith
  at_most n (comes {n = m} {ns = ns} {k = k} {c = c} {cs = cs} a o b r) e h l = go (same x (particle_of m).named) refl (at_most n r e h) e l
    where
      go : (t : Bool) → same x (particle_of m).named ≡ t
          → (cond (same x (particle_of m).named) (suc k) 0 ≤ (particle_of n).most → cond (same x (particle_of m).named) (suc k) 0 + length (named_in x cs) ≤ (particle_of n).most)
          → cond t (first m (node_of x ns)) (node_of x ns) ≡ only n → cond t k 0 ≤ (particle_of n).most
          → cond t k 0 + length (cond (same x c.named) (c ∷ named_in x cs) (named_in x cs)) ≤ (particle_of n).most
      go true u i q l =
          let f = (first_is m n (node_of x ns) q).0 in
          let v = rw u at i in
          rw (a, u) (⊎_elim (λ z. let w : (particle_of n).most ≡ 0 = rw f at z in absurd (omega arith)) (λ z. let w : k < (particle_of n).most = rw f at z in omega (arith, v w)) o)
      go false u i q l = rw (a, u) ((rw u at i) (omega arith))
  at_most n (passes {n = m} {ns = ns} {k = k} {cs = cs} b r) e h l = go (same x (particle_of m).named) (at_most n r) e l
    where
      go : (t : Bool) → (node_of x ns ≡ only n → 0 < (particle_of n).most → came x ns 0 ≤ (particle_of n).most → came x ns 0 + length (named_in x cs) ≤ (particle_of n).most)
          → cond t (first m (node_of x ns)) (node_of x ns) ≡ only n → cond t k 0 ≤ (particle_of n).most → cond t k 0 + length (named_in x cs) ≤ (particle_of n).most
      go true i q l = omega (arith, no_more cs (no_child p x r (first_is m n (node_of x ns) q).1))
      go false i q l = let z = came_none x ns in omega (arith, i q h (omega arith))

-- ---- the first of a name, by lookup

pub first_named_lem : (x : List ℕ) (q : Tree → Type 0) (cs : List Tree) → any (λ c. same x c.named) cs ≡ true → Every (λ c. same x c.named ≡ true → q c) cs
    → q (first_named x cs)
unfolding any first_named
first_named_lem x q [] e h = absurd (false≢true e)
first_named_lem x q (c ∷ cs) e h = go (same x c.named) h.0 (λ f. first_named_lem x q cs f h.1) e
  where
    go : (b : Bool) → (b ≡ true → q c) → (any (λ c. same x c.named) cs ≡ true → q (first_named x cs)) → b || any (λ c. same x c.named) cs ≡ true
        → q (cond b c (first_named x cs))
    go true f g e = f refl
    go false f g e = g e

pub first_missing : (x : List ℕ) (cs : List Tree) → any (λ c. same x c.named) cs ≡ false → first_named x cs ≡ missing
unfolding any first_named
first_missing x [] e = refl
first_missing x (c ∷ cs) e =
    rw (or_left (same x c.named) (any (λ c. same x c.named) cs) e)
    (first_missing x cs (or_right (same x c.named) (any (λ c. same x c.named) cs) e))

-- ---- a group without a fault

-- a child that may be missing
pub data MayLack (p : Tree → Type 0) (n : Node) (x : List ℕ) (t : Tree) : Type 0 where
  lacks : has_child x t ≡ false → child_of x t ≡ missing → MayLack p n x t
  has : has_child x t ≡ true → Meets p n (child_of x t) → MayLack p n x t

module _ (p : Tree → Type 0) (far : (c : Tree) → p c → 0 < c.from) {h : Particle} {ns : Nodes} {t : Tree} (m : Meets p (group h ns) t) where
  pub group_walked : Walked p ns 0 t.inside
  group_walked =
      walked p far t.from (far t m.known.0) ns 0 t.inside
      (cond_none (attrs_fit [] h.attrs t.pairs) (fault_in ns 0 t.from t.inside) t.from (far t m.known.0) m.clean).1 m.known.1

  pub group_taken : Taken p ns 0 (kids t.inside)
  group_taken = taken p group_walked

  pub group_attrs : attrs_fit [] h.attrs t.pairs ≡ true
  group_attrs =
      (cond_none (attrs_fit [] h.attrs t.pairs) (fault_in ns 0 t.from t.inside) t.from (far t m.known.0) m.clean).0

  -- no child of a name that no node has
  pub child_none : (x : List ℕ) → node_of x ns ≡ absent → has_child x t ≡ false
  child_none x e = no_child p x group_taken e

  -- a child that must come is there, without a fault by its node
  pub child_one : (x : List ℕ) (n : Node) → node_of x ns ≡ only n → owed x ns 0 ≡ true → Meets p n (child_of x t)
  child_one x n e o = first_named_lem x (Meets p n) (kids t.inside) (must_come p x group_taken o) (by_node p x n group_taken e)

  pub child_there : (x : List ℕ) → owed x ns 0 ≡ true → has_child x t ≡ true
  child_there x o = must_come p x group_taken o

  -- one that may be missing is missing, or it is without a fault
  pub child_maybe : (x : List ℕ) (n : Node) → node_of x ns ≡ only n → MayLack p n x t
  child_maybe x n e = go (has_child x t) refl
    where
      go : (b : Bool) → has_child x t ≡ b → MayLack p n x t
      go true u = has u (first_named_lem x (Meets p n) (kids t.inside) u (by_node p x n group_taken e))
      go false u = lacks u (first_missing x (kids t.inside) u)

  pub child_most : (x : List ℕ) (n : Node) → node_of x ns ≡ only n → 0 < (particle_of n).most → length (named_in x (kids t.inside)) ≤ (particle_of n).most
  child_most x n e l = let z = came_none x ns in omega (arith, at_most p x n group_taken e l (omega arith))
