-- A fault told is the place of one element, at fault by itself under the node that it stands under (RULES.md, S25, S26).
use Prim.Native.Nat.{ℕ, zero, suc, ◌+◌, ◌<◌}
use mathlib.Core.Path.{◌≡◌, refl, sym, ap, subst, ◌∙◌}
use mathlib.Core.Logic.{◌≢◌, ⊎_elim}
use mathlib.Core.Bool.{Bool, true, false, cond}
use mathlib.Core.List.{List, [], ◌∷◌}
use native.Mathlib.Omega.{arith}
use lib.Dec.{eqb}
use lib.ListN.{length, get_or}
use lib.Seq.{drop-cons}
use borrow.Author.Tests.{eqb-true, eqb-false}
use Rattle.markup.specs.Elements.{Inside, Tree, mk, alone, kids}
use Rattle.markup.specs.Elements.Inside.{end, says, note, elem}
use Rattle.reading.specs.Everywhere.{Deeply}
use Rattle.reading.proofs.Cut.{never}
use Rattle.reading.proofs.Places.{kids_known, every_get}
use Rattle.schema.specs.Schema.{Node, Nodes, ◌▸◌, particle_of, Schema}
use Rattle.schema.specs.Shape.{Seek, nowhere, here, seek, fault_of, outside, named_in, records_of, faulty, first_bad, shape_of}
use Rattle.schema.specs.AtFault.{nodes_in, child_under, UnderIn, Under, AtFault, FileFault}
use Rattle.schema.proofs.Named.{named_known}
use Rattle.schema.proofs.FaultIn.{of_node, fault_is}

-- S26: A FAULT IN AN ELEMENT IS THE PLACE OF ONE THAT IS AT FAULT BY ITSELF
pub at_fault : (n : Node) (t : Tree) → fault_of n t ≢ 0 → (c : Tree) × AtFault n t c × (fault_of n t ≡ c.from)
at_fault n t h = ⊎_elim (λ e. absurd (h e)) (λ q. q) (of_node n t (λ ms. fault_is t.inside ms 0 t.from))

-- ---- what holds of every element

-- what holds of every element, at any depth, holds of one that stands in a group under a node
pub under_holds : (p : Tree → Type 0) (m : Node) (c : Tree) (i : Inside) (ns : Nodes) (k : ℕ) → Deeply p i → UnderIn m c ns k i → p c
unfolding UnderIn
under_holds p m c end ns k h u = absurd u
under_holds p m c (says t i) ns k h u = under_holds p m c i ns k h u
under_holds p m c (note i) ns k h u = under_holds p m c i ns k h u
under_holds p m c (elem y n ps j i) ns k h u = go (seek n ns k) (λ ms. under_holds p m c j ms 0 h.1) (λ ms q. under_holds p m c i ms q h.2) u
  where
    go : (s : Seek) → ((ms : Nodes) → UnderIn m c ms 0 j → p c) → ((ms : Nodes) (q : ℕ) → UnderIn m c ms q i → p c)
        → child_under m c (mk y n ps j) (λ ms. UnderIn m c ms 0 j) (λ ms q. UnderIn m c ms q i) s → p c
    go nowhere a b u = absurd u
    go (here x ms q) a b u = ⊎_elim (λ e. subst p e.1 h.0) (⊎_elim (a (nodes_in x)) (b (x ▸ ms) (suc q))) u

-- and of one that stands in an element, or is it
pub tree_holds : (p : Tree → Type 0) (m : Node) (c : Tree) (n : Node) (t : Tree) → Deeply p (alone t) → Under m c n t → p c
tree_holds p m c n t h u = ⊎_elim (λ e. subst p e.1 h.0) (under_holds p m c t.inside (nodes_in n) 0 h.1) u

-- what holds of every element holds of each child of a name, and of every element in it
pub child_known : (p : Tree → Type 0) (x : List ℕ) (i : Inside) (k : ℕ) (d : Tree) → Deeply p i → k < length (named_in x (kids i))
    → Deeply p (alone (get_or (named_in x (kids i)) k d))
child_known p x i k d h l =
    every_get (λ c. Deeply p (alone c)) (named_in x (kids i)) k d (named_known (λ c. Deeply p (alone c)) x (kids i) (kids_known p i h)) l

-- ---- the file

-- the record at fault: `index` others stand before it, and the first of all has the number i + 1
pub record FirstBad (n : Node) (i : ℕ) (rs : List Tree) (number z : ℕ) : Type 0 where
  pub index : ℕ
  pub counts : number ≡ suc (i + index)
  pub within : index < length rs
  pub fault : (d : Tree) → fault_of n (get_or rs index d) ≡ z
  pub some : z ≢ 0
  pub earlier : (j : ℕ) → j < index → (d : Tree) → fault_of n (get_or rs j d) ≡ 0

-- F6: "the number of the first bad record" is that of a record with the fault told
pub first_bad_lem : (n : Node) (i : ℕ) (rs : List Tree) (number z : ℕ) → first_bad n i rs ≡ faulty number z → FirstBad n i rs number z
unfolding first_bad
first_bad_lem n i [] number z e = never cc
first_bad_lem n i (r ∷ rs) number z e = go (eqb (fault_of n r) 0) refl (first_bad_lem n (suc i) rs number z) e
  where
    before : (x : ℕ) → fault_of n r ≡ 0 → ((j : ℕ) → j < x → (d : Tree) → fault_of n (get_or rs j d) ≡ 0) → (j : ℕ) → j < suc x → (d : Tree)
        → fault_of n (get_or (r ∷ rs) j d) ≡ 0
    before x f h zero l d = f
    before x f h (suc j) l d = h j (omega arith) d

    go : (b : Bool) → eqb (fault_of n r) 0 ≡ b → (first_bad n (suc i) rs ≡ faulty number z → FirstBad n (suc i) rs number z)
        → cond b (first_bad n (suc i) rs) (faulty (suc i) (fault_of n r)) ≡ faulty number z → FirstBad n i (r ∷ rs) number z
    go true u h q =
        let w = h q in
        record {
          index = suc w.index;
          counts = omega arith;
          within = omega arith;
          fault = w.fault;
          some = w.some;
          earlier = before w.index (eqb-true (fault_of n r) 0 u) w.earlier;
        }
    go false u h q =
        let a : suc i ≡ number = cc in
        let f : fault_of n r ≡ z = cc in
        record {
          index = 0;
          counts = omega arith;
          within = omega arith;
          fault = λ d. f;
          some = λ y. eqb-false (fault_of n r) 0 u (f ∙ y);
          earlier = λ j l. absurd (omega arith);
        }

-- F6, S26: A FAULT IN A FILE IS THE PLACE OF ONE ELEMENT, of which all holds that holds of every element of the file
pub fault_at : (p : Tree → Type 0) (s : Schema) (t : Tree) (number z : ℕ) → Deeply p (alone t) → shape_of s t ≡ faulty number z
    → (c : Tree) × FileFault s t number c × (z ≡ c.from) × p c
unfolding shape_of
fault_at p s t number z h e = go (outside s t) refl e
  where
    Found : Type 0
    Found = (c : Tree) × FileFault s t number c × (z ≡ c.from) × p c

    rs : List Tree
    rs = records_of s t

    within : FirstBad s.each 0 rs number z → Found
    within w =
        let (c, a, f) = at_fault s.each (get_or rs w.index t) (λ y. w.some (sym (w.fault t) ∙ y)) in
        let g : z ≡ c.from = sym (w.fault t) ∙ f in
        let any : (d : Tree) → get_or rs w.index d ≡ get_or rs w.index t = λ d.
        cc (drop-cons rs w.index d w.within, drop-cons rs w.index t w.within) in
        let r : FileFault s t number c = record {
          told = e ∙ ap (faulty number) g;
          root = λ y. absurd (omega arith);
          inside = λ i y. let q : i ≡ w.index = omega arith in rw q (w.within, λ d. rw (any d) a);
          earlier = λ i y j l. w.earlier j (omega arith);
        } in
        let k = child_known p (particle_of s.each).named t.inside w.index t h.1 w.within in
        (c, r, g, tree_holds p a.node c s.each (get_or rs w.index t) k a.under)

    go : (b : Bool) → outside s t ≡ b → cond b (first_bad s.each 0 rs) (faulty 0 t.from) ≡ faulty number z → Found
    go true u q = within (first_bad_lem s.each 0 rs number z q)
    go false u q =
        let a : 0 ≡ number = cc in
        let g : z ≡ t.from = cc in
        let r : FileFault s t number t = record {
          told = e ∙ ap (faulty number) g;
          root = λ y. (refl, u);
          inside = λ i y. absurd (omega arith);
          earlier = λ i y. absurd (omega arith);
        } in
        (t, r, g, h.0)
