-- What the fault in a group is, and in an element: none, or the place of one element that is wrong by itself (RULES.md, S25, S26).
use Prim.Native.Nat.{ℕ, zero, suc}
use mathlib.Core.Path.{◌≡◌, refl}
use mathlib.Core.Logic.{◌⊎◌, inl, inr, ⊎_elim}
use mathlib.Core.Bool.{Bool, true, false, cond, not, ◌&&◌}
use mathlib.Core.List.{[]}
use Rattle.laws.specs.Lists.{all}
use Rattle.markup.specs.Bytes.{is_ws}
use Rattle.markup.specs.Elements.{Inside, Tree, mk}
use Rattle.markup.specs.Elements.Inside.{end, says, note, elem}
use Rattle.reading.proofs.Cut.{never}
use Rattle.schema.specs.Schema.{Node, leaf, group, another, Nodes, ◌▸◌}
use Rattle.schema.specs.Shape.{attrs_fit, leaf_fits, Seek, nowhere, here, seek, enough, first_fault, child_fault, fault_in, fault_of}
use Rattle.schema.specs.AtFault.{onward, orderly, wrong, child_under, UnderIn, AtFault}

-- in a group that opened with z bytes left, in order or not: there is none; it is the group's own; or that of an element which stands in it
pub data Fault (Stands : Node → Tree → Type 0) (order : Bool) (z f : ℕ) : Type 0 where
  clean : f ≡ 0 → Fault Stands order z f
  own : f ≡ z → order ≡ false → Fault Stands order z f
  deeper : (m : Node) (c : Tree) → Stands m c → wrong m c ≡ true → f ≡ c.from → Fault Stands order z f

-- by the nodes still to come, of the first of which k have been
abbrev pub GroupFault : Nodes → ℕ → ℕ → Inside → Type 0
GroupFault ns k z i = Fault (λ m c. UnderIn m c ns k i) (orderly ns k i) z (fault_in ns k z i)

-- in the element t, held against n: there is none, or it is that of an element at fault
abbrev pub NodeFault : Node → Tree → ℕ → Type 0
NodeFault n t f = (f ≡ 0) ⊎ ((c : Tree) × AtFault n t c × (f ≡ c.from))

-- an element by itself: there is no fault where it passes the test, else the fault is its own
itself : (n : Node) (t : Tree) (b : Bool) → wrong n t ≡ not b → NodeFault n t (cond b 0 t.from)
itself n t true e = inl refl
itself n t false e = inr (t, record { node = n; under = inl (refl, refl); itself = e }, refl)

-- the fault in an element, from what stands in it
pub of_node : (n : Node) (t : Tree) → ((ms : Nodes) → GroupFault ms 0 t.from t.inside) → NodeFault n t (fault_of n t)
of_node (leaf h x) t within = itself (leaf h x) t (attrs_fit [] h.attrs t.pairs && leaf_fits x t.inside) refl
of_node (group h ns) t within = go (attrs_fit [] h.attrs t.pairs) refl (within ns)
  where
    go : (b : Bool) → attrs_fit [] h.attrs t.pairs ≡ b → GroupFault ns 0 t.from t.inside
        → NodeFault (group h ns) t (cond b (fault_in ns 0 t.from t.inside) t.from)
    go false e q = itself (group h ns) t false (rw e)
    go true e (clean f) = inl f
    go true e (own f u) = rw f (itself (group h ns) t false (rw (e, u)))
    go true e (deeper m c u w f) = inr (c, record { node = m; under = inr u; itself = w }, f)
of_node (another h) t within = inl refl

-- WHAT A FAULT IN A GROUP IS
pub fault_is : (i : Inside) (ns : Nodes) (k z : ℕ) → GroupFault ns k z i
unfolding fault_in orderly UnderIn
fault_is end ns k z = go (enough ns k)
  where
    go : (b : Bool) → Fault (λ m c. ⊥) b z (cond b 0 z)
    go true = clean refl
    go false = own refl refl
fault_is (says t i) ns k z = go (all is_ws t) (fault_is i ns k z)
  where
    go : (b : Bool) → GroupFault ns k z i → Fault (λ m c. UnderIn m c ns k i) (b && orderly ns k i) z (cond b (fault_in ns k z i) z)
    go true q = q
    go false q = own refl refl
fault_is (note i) ns k z = fault_is i ns k z
fault_is (elem y n ps j i) ns k z = go (seek n ns k) (λ m. of_node m (mk y n ps j) (λ ms. fault_is j ms 0 y)) (λ ms q. fault_is i ms q z)
  where
    Stands : Seek → Node → Tree → Type 0
    Stands s m c = child_under m c (mk y n ps j) (λ ms. UnderIn m c ms 0 j) (λ ms q. UnderIn m c ms q i) s

    -- the child's, or else that of what follows it
    first : (a : Node) (ms : Nodes) (q f : ℕ) → NodeFault a (mk y n ps j) f → GroupFault (a ▸ ms) (suc q) z i
        → Fault (Stands (here a ms q)) (orderly (a ▸ ms) (suc q) i) z (first_fault f (fault_in (a ▸ ms) (suc q) z i))
    first a ms q zero p (clean e) = clean e
    first a ms q zero p (own e u) = own e u
    first a ms q zero p (deeper m c u w e) = deeper m c (inr (inr u)) w e
    first a ms q (suc f) (inl e) r = never cc
    first a ms q (suc f) (inr (c, b, e)) r = deeper b.node c (⊎_elim inl (λ u. inr (inl u)) b.under) b.itself e

    go : (s : Seek) → ((m : Node) → NodeFault m (mk y n ps j) (fault_of m (mk y n ps j))) → ((ms : Nodes) (q : ℕ) → GroupFault ms q z i)
        → Fault (Stands s) (onward (λ ms q. orderly ms q i) s) z (child_fault (λ ms. fault_in ms 0 y j) (λ ms q. fault_in ms q z i) z y ps j s)
    go nowhere a b = own refl refl
    go (here (leaf h x) ms q) a b = first (leaf h x) ms q (fault_of (leaf h x) (mk y n ps j)) (a (leaf h x)) (b (leaf h x ▸ ms) (suc q))
    go (here (group h ls) ms q) a b = first (group h ls) ms q (fault_of (group h ls) (mk y n ps j)) (a (group h ls)) (b (group h ls ▸ ms) (suc q))
    go (here (another h) ms q) a b = first (another h) ms q 0 (a (another h)) (b (another h ▸ ms) (suc q))
