-- Where no fault is told, no element is at fault by itself (RULES.md, S25, S26): the other way round from AtFault. Places are above 0, which says "none".
use Prim.Native.Nat.{ℕ, zero, suc, ◌+◌, ◌<◌}
use mathlib.Core.Path.{◌≡◌, refl}
use mathlib.Core.Logic.{inl, inr, ⊎_elim}
use mathlib.Core.Bool.{Bool, true, false, cond, ◌&&◌}
use mathlib.Core.List.{List, [], ◌∷◌}
use native.Mathlib.Omega.{arith}
use lib.Dec.{eqb}
use lib.ListN.{length, get_or}
use borrow.Author.Tests.{eqb-true}
use Rattle.laws.specs.Lists.{all}
use Rattle.markup.specs.Bytes.{is_ws}
use Rattle.markup.specs.Elements.{Inside, Tree, mk, alone}
use Rattle.markup.specs.Elements.Inside.{end, says, note, elem}
use Rattle.reading.specs.Everywhere.{Every, Deeply}
use Rattle.reading.proofs.Cut.{never}
use Rattle.reading.proofs.Places.{every_get}
use Rattle.schema.specs.Schema.{Node, leaf, group, another, Nodes, none, ◌▸◌, particle_of, Schema}
use Rattle.schema.specs.Shape.{attrs_fit, leaf_fits, Seek, nowhere, here, seek, enough, first_fault, child_fault, fault_in, fault_of}
use Rattle.schema.specs.Shape.{outside, records_of, fine, faulty, first_bad, shape_of}
use Rattle.schema.specs.AtFault.{onward, orderly, wrong, child_under, UnderIn, Under}
use Rattle.schema.proofs.AtFault.{child_known}

-- none of the elements that stand somewhere is wrong by itself
abbrev pub NoneWrong : (Node → Tree → Type 0) → Type 0
NoneWrong Stands = (m : Node) (c : Tree) → Stands m c → wrong m c ≡ false

-- a group in order, with no element in it that is wrong
abbrev pub GroupRight : Nodes → ℕ → Inside → Type 0
GroupRight ns k i = (orderly ns k i ≡ true) × NoneWrong (λ m c. UnderIn m c ns k i)

-- ---- an element, from what stands in it

-- no element stands under the nodes of a leaf, or of a record that is held against its own node: they are none
none_under : (m : Node) (c : Tree) (i : Inside) (k : ℕ) → UnderIn m c none k i → ⊥
unfolding UnderIn seek
none_under m c end k u = u
none_under m c (says t i) k u = none_under m c i k u
none_under m c (note i) k u = none_under m c i k u
none_under m c (elem y n ps j i) k u = u

-- an element that is not wrong itself, by the node that it is held against
the_same : (n : Node) (t : Tree) → wrong n t ≡ false → NoneWrong (λ m c. (n ≡ m) × (t ≡ c))
the_same n t w m c e = rw (← e.0, ← e.1) w

-- an element without a fault, from what is known of a group
node_right : (n : Node) (t : Tree) → 0 < t.from → ((ms : Nodes) → fault_in ms 0 t.from t.inside ≡ 0 → GroupRight ms 0 t.inside) → fault_of n t ≡ 0
    → NoneWrong (λ m c. Under m c n t)
node_right (leaf h x) t p within f m c u = go (attrs_fit [] h.attrs t.pairs && leaf_fits x t.inside) refl f
  where
    go : (b : Bool) → attrs_fit [] h.attrs t.pairs && leaf_fits x t.inside ≡ b → cond b 0 t.from ≡ 0 → wrong m c ≡ false
    go true e q = ⊎_elim (the_same (leaf h x) t (rw e) m c) (λ v. absurd (none_under m c t.inside 0 v)) u
    go false e q = absurd (omega arith)
node_right (group h ns) t p within f m c u = go (attrs_fit [] h.attrs t.pairs) refl f
  where
    go : (b : Bool) → attrs_fit [] h.attrs t.pairs ≡ b → cond b (fault_in ns 0 t.from t.inside) t.from ≡ 0 → wrong m c ≡ false
    go true e q = let g = within ns q in let o = g.0 in ⊎_elim (the_same (group h ns) t (rw (e, o)) m c) (g.1 m c) u
    go false e q = absurd (omega arith)
node_right (another h) t p within f m c u = ⊎_elim (the_same (another h) t refl m c) (λ v. absurd (none_under m c t.inside 0 v)) u

-- ---- a group

both_none : (a b : ℕ) → first_fault a b ≡ 0 → (a ≡ 0) × (b ≡ 0)
both_none zero b e = (refl, e)
both_none (suc a) b e = absurd (omega arith)

-- A GROUP WITHOUT A FAULT
pub group_right : (i : Inside) (ns : Nodes) (k z : ℕ) → 0 < z → Deeply (λ c. 0 < c.from) i → fault_in ns k z i ≡ 0 → GroupRight ns k i
unfolding fault_in orderly UnderIn
group_right end ns k z p d f = (go (enough ns k) f, λ m c u. absurd u)
  where
    go : (b : Bool) → cond b 0 z ≡ 0 → b ≡ true
    go true q = refl
    go false q = absurd (omega arith)
group_right (says t i) ns k z p d f = go (all is_ws t) (group_right i ns k z p d) f
  where
    go : (b : Bool) → (fault_in ns k z i ≡ 0 → GroupRight ns k i) → cond b (fault_in ns k z i) z ≡ 0
        → (b && orderly ns k i ≡ true) × NoneWrong (λ m c. UnderIn m c ns k i)
    go true r q = r q
    go false r q = absurd (omega arith)
group_right (note i) ns k z p d f = group_right i ns k z p d f
group_right (elem y n ps j i) ns k z p d f =
    go (seek n ns k) (λ m. node_right m (mk y n ps j) d.0 (λ ms. group_right j ms 0 y d.0 d.1)) (λ ms q. group_right i ms q z p d.2) f
  where
    Right : Seek → Type 0
    Right s = (onward (λ ms q. orderly ms q i) s ≡ true)
        × NoneWrong (λ m c. child_under m c (mk y n ps j) (λ ms. UnderIn m c ms 0 j) (λ ms q. UnderIn m c ms q i) s)

    -- the child, then what follows it
    both : (a : Node) (ms : Nodes) (q : ℕ) → NoneWrong (λ m c. Under m c a (mk y n ps j)) → GroupRight (a ▸ ms) (suc q) i → Right (here a ms q)
    both a ms q r g = (g.0, λ m c. ⊎_elim (λ e. r m c (inl e)) (⊎_elim (λ u. r m c (inr u)) (g.1 m c)))

    go : (s : Seek) → ((m : Node) → fault_of m (mk y n ps j) ≡ 0 → NoneWrong (λ o c. Under o c m (mk y n ps j)))
        → ((ms : Nodes) (q : ℕ) → fault_in ms q z i ≡ 0 → GroupRight ms q i)
        → child_fault (λ ms. fault_in ms 0 y j) (λ ms q. fault_in ms q z i) z y ps j s ≡ 0 → Right s
    go nowhere a b e = absurd (omega arith)
    go (here (leaf h x) ms q) a b e =
        let w = both_none (fault_of (leaf h x) (mk y n ps j)) (fault_in (leaf h x ▸ ms) (suc q) z i) e in
        both (leaf h x) ms q (a (leaf h x) w.0) (b (leaf h x ▸ ms) (suc q) w.1)
    go (here (group h ls) ms q) a b e =
        let w = both_none (fault_of (group h ls) (mk y n ps j)) (fault_in (group h ls ▸ ms) (suc q) z i) e in
        both (group h ls) ms q (a (group h ls) w.0) (b (group h ls ▸ ms) (suc q) w.1)
    go (here (another h) ms q) a b e = both (another h) ms q (a (another h) refl) (b (another h ▸ ms) (suc q) e)

-- AN ELEMENT WITHOUT A FAULT HAS NONE THAT IS AT FAULT BY ITSELF
pub none_wrong : (n : Node) (t : Tree) → Deeply (λ c. 0 < c.from) (alone t) → fault_of n t ≡ 0 → (m : Node) (c : Tree) → Under m c n t → wrong m c ≡ false
none_wrong n t d = node_right n t d.0 (λ ms. group_right t.inside ms 0 t.from d.0 d.1)

-- ---- the file

-- no bad record: each is without a fault, and they are counted
bad_none : (n : Node) (i k : ℕ) (rs : List Tree) → first_bad n i rs ≡ fine k → Every (λ r. fault_of n r ≡ 0) rs × (k ≡ i + length rs)
unfolding first_bad
bad_none n i k [] e = (tt, (let q : i ≡ k = cc in omega arith))
bad_none n i k (r ∷ rs) e = go (eqb (fault_of n r) 0) refl (bad_none n (suc i) k rs) e
  where
    go : (b : Bool) → eqb (fault_of n r) 0 ≡ b → (first_bad n (suc i) rs ≡ fine k → Every (λ r. fault_of n r ≡ 0) rs × (k ≡ suc i + length rs))
        → cond b (first_bad n (suc i) rs) (faulty (suc i) (fault_of n r)) ≡ fine k
        → ((fault_of n r ≡ 0) × Every (λ r. fault_of n r ≡ 0) rs) × (k ≡ i + suc (length rs))
    go true u h q = let w = h q in ((eqb-true (fault_of n r) 0 u, w.0), omega arith)
    go false u h q = never cc

-- of the shape: nothing is wrong outside the records, none of them has a fault, and they are as many as it says
pub of_shape : (s : Schema) (t : Tree) (k : ℕ) → shape_of s t ≡ fine k
    → (outside s t ≡ true) × Every (λ r. fault_of s.each r ≡ 0) (records_of s t) × (k ≡ length (records_of s t))
unfolding shape_of
of_shape s t k e = go (outside s t) refl e
  where
    go : (b : Bool) → outside s t ≡ b → cond b (first_bad s.each 0 (records_of s t)) (faulty 0 t.from) ≡ fine k
        → (outside s t ≡ true) × Every (λ r. fault_of s.each r ≡ 0) (records_of s t) × (k ≡ length (records_of s t))
    go true u q = let w = bad_none s.each 0 k (records_of s t) q in (u, w.0, omega arith)
    go false u q = never cc

-- OF A FILE OF THE SHAPE NO ELEMENT OF ANY RECORD IS AT FAULT BY ITSELF
pub records_right : (s : Schema) (t : Tree) (k : ℕ) → Deeply (λ c. 0 < c.from) (alone t) → shape_of s t ≡ fine k
    → (i : ℕ) (d : Tree) → i < length (records_of s t) → (m : Node) (c : Tree) → Under m c s.each (get_or (records_of s t) i d) → wrong m c ≡ false
records_right s t k h e i d l =
    let clean = every_get (λ r. fault_of s.each r ≡ 0) (records_of s t) i d (of_shape s t k e).1 l in
    none_wrong s.each (get_or (records_of s t) i d) (child_known (λ c. 0 < c.from) (particle_of s.each).named t.inside i d h.1 l) clean
