-- What stands in a group, step after step, held against the nodes still to come: its first fault, and beside that what g makes of it.
use Prim.Native.Nat.{ℕ, zero, suc, ◌+◌, ◌<◌}
use mathlib.Core.Path.{◌≡◌, refl, sym, ap, ◌∙◌}
use mathlib.Core.Bool.{Bool, true, false}
use mathlib.Core.List.{List, []}
use native.Mathlib.Numerals.{add-one}
use native.Mathlib.Omega.{arith}
use lib.ListN.{drop}
use Rattle.laws.specs.Lists.{all}
use Rattle.markup.specs.Bytes.{is_ws}
use Rattle.markup.specs.NamesAndValues.Read.{read}
use Rattle.markup.specs.Elements.{Inside, Tree, content, element, kid_on}
use Rattle.markup.specs.Elements.Inside.{end, says, note}
use Rattle.schema.specs.Schema.{Node, leaf, group, another, Nodes, ◌▸◌}
use Rattle.schema.specs.Shape.{Seek, nowhere, here, seek, enough, first_fault, child_fault, fault_in, fault_of}
use Rattle.schema.specs.CountedElements.{count_of}
use Rattle.schema.specs.Table.{name_at, node_at}
use Rattle.std.specs.Prelude.{Option, Some}
use Rattle.std.specs.Bool.{then_some}
use Rattle.schema.specs.declared.children.Spot.{Spot}
use Rattle.schema.specs.declared.steps.Step.{Step}
use Rattle.schema.specs.declared.steps.Step.TheVariants as step
use Rattle.schema.specs.View.{nodes_from, view_spot, Passes, white, comment, SaysStep, ok_step}
use Rattle.schema.proofs.Heads.{nodes_turn, spot_named}

-- a child's own fault comes before those that follow it
child_is : (nd : Node) (ns : Nodes) (c z : ℕ) (t : Tree) (i : Inside)
    → child_fault (λ ms. fault_in ms 0 t.from t.inside) (λ ms c. fault_in ms c z i) z t.from t.pairs t.inside (here nd ns c)
    ≡ first_fault (fault_of nd t) (fault_in (nd ▸ ns) (suc c) z i)
child_is (leaf h x) ns c z t i = refl
child_is (group h ms) ns c z t i = refl
child_is (another h) ns c z t i = refl

first_fault_lem : (w f : ℕ) → 0 < w → first_fault w f ≡ w
first_fault_lem zero f h = absurd (omega arith)
first_fault_lem (suc w) f h = refl

module _ (ns : Nodes) (k z : ℕ) (t : Tree) (i : Inside) where
  kid_here : {nd : Node} {ms : Nodes} {c : ℕ} → here nd ms c ≡ seek t.named ns k → fault_in ns k z (kid_on t i) ≡ first_fault (fault_of nd t) (fault_in (nd ▸ ms) (suc c) z i)
  unfolding fault_in
  kid_here {nd} {ms} {c} e = rw (← e) (child_is nd ms c z t i)

-- the faults that are the group's
module _ (ns : Nodes) (k : ℕ) {i : Inside} where
  pub wrong_end : i ≡ end → enough ns k ≡ false → (z : ℕ) → fault_in ns k z i ≡ z
  unfolding fault_in
  wrong_end e h z = rw (e, h)

  pub wrong_text : {t : List ℕ} {j : Inside} → i ≡ says t j → all is_ws t ≡ false → (z : ℕ) → fault_in ns k z i ≡ z
  unfolding fault_in
  wrong_text e h z = rw (e, h)

  pub wrong_child : {t : Tree} {j : Inside} → i ≡ kid_on t j → nowhere ≡ seek t.named ns k → (z : ℕ) → fault_in ns k z i ≡ z
  unfolding fault_in
  wrong_child e h z = rw (e, ← h)

-- a step by a test: the group ends, or white space is passed
module _ (s : List ℕ) (at d : ℕ) (name : List ℕ) (ns : Nodes) (k : ℕ) (view : Option Spot → Seek) {i : Inside} {m : List ℕ} (p : ℕ) where
  pub step_past : i ≡ end → drop p s ≡ m → (b : Bool) → b ≡ enough ns k → SaysStep s at d name ns k view i m (then_some b (step.Past p))
  step_past e q true h = (e, sym h, q)
  step_past e q false h = wrong_end ns k e (sym h)

  pub step_white : {t : List ℕ} (j : Inside) → i ≡ says t j → content (element d) name (drop p s) ≡ read j m → (b : Bool) → b ≡ all is_ws t → SaysStep s at d name ns k view i m (then_some b (step.On p))
  step_white {t} j e q true h = (j, white t e (sym h), q)
  step_white j e q false h = wrong_text ns k e (sym h)

pub ok_then : (s : List ℕ) (at n count : ℕ) (x : Step) (b : Bool) → ok_step s at n count (Some x) → ok_step s at n count (then_some b x)
ok_then s at n count x true h = h
ok_then s at n count x false h = tt

-- what g makes of it does not depend on texts and comments
pub record Quiet {R : Type 0} (g : Inside → R) : Type 0 where
  pub texts : (t : List ℕ) (i : Inside) → g (says t i) ≡ g i
  pub notes : (i : Inside) → g (note i) ≡ g i

-- the fault in what is left is that of the whole, and g makes of what is left what was told of the whole
pub record Walk {R : Type 0} (d : ℕ) (n m : List ℕ) (fault : ℕ) (told : R) (ns : Nodes) (k z : ℕ) (g : Inside → R) (l : List ℕ) : Type 0 where
  pub left : Inside
  pub reads : content (element d) n l ≡ read left m
  pub faulty : fault_in ns k z left ≡ fault
  pub tells : g left ≡ told

module _ {R : Type 0} {d : ℕ} {n m : List ℕ} {fault : ℕ} {told : R} {ns : Nodes} {k z : ℕ} {g : Inside → R} {l : List ℕ} (o : Walk d n m fault told ns k z g l) where
  pub walk_past : o.left ≡ end → enough ns k ≡ true → (fault ≡ 0) × (g end ≡ told)
  unfolding fault_in
  walk_past e h = (sym o.faulty ∙ rw (e, h), ap g (sym e) ∙ o.tells)

  pub walk_wrong : ((z : ℕ) → fault_in ns k z o.left ≡ z) → fault ≡ z
  walk_wrong h = sym o.faulty ∙ h z

  pub walk_on : Quiet g → {y : List ℕ} (j : Inside) → Passes o.left j → content (element d) n y ≡ read j m → Walk d n m fault told ns k z g y
  unfolding fault_in
  walk_on q j (white t e h) r = record { left = j; reads = r; faulty = sym (rw (e, h)) ∙ o.faulty; tells = sym (q.texts t j) ∙ ap g (sym e) ∙ o.tells }
  walk_on q j (comment e) r = record { left = j; reads = r; faulty = sym (rw e) ∙ o.faulty; tells = sym (q.notes j) ∙ ap g (sym e) ∙ o.tells }

-- a child, by the rows of a table
module _ {R : Type 0} (table pool ranges s : List ℕ) (d at first n item : ℕ) {name m : List ℕ} {fault : ℕ} {told : R} {k z : ℕ} {g : Inside → R}
    (o : Walk d name m fault told (nodes_from table pool ranges d first n item) k z g (drop at s)) (p : Spot)
    (x : SaysStep s at d name (nodes_from table pool ranges d first n item) k (view_spot table pool ranges d first n) o.left m (Some (step.Child p))) (h : p.item < n) where
  child_named : x.0.named ≡ name_at table pool [] (first + p.item)
  child_named = spot_named table pool ranges d (first + p.item) (nodes_from table pool ranges d first n item) k x.6

  fault_is : fault ≡ first_fault (fault_of (node_at table pool ranges d (first + p.item)) x.0) (fault_in (nodes_from table pool ranges d first n p.item) (p.count + 1) z x.1)
  fault_is =
      sym o.faulty
      ∙ ap (fault_in (nodes_from table pool ranges d first n item) k z) x.3
      ∙ kid_here (nodes_from table pool ranges d first n item) k z x.0 x.1 x.6
      ∙ rw (nodes_turn table pool ranges d first n p.item h, add-one p.count)

  pub walk_fault : {w : ℕ} → (x.0.named ≡ name_at table pool [] (first + p.item) → (fault_of (node_at table pool ranges d (first + p.item)) x.0 ≡ w) × (0 < w)) → (fault ≡ w) × (0 < w)
  walk_fault {w} u =
      let v = u child_named in
      (fault_is ∙ rw v.0 (first_fault_lem w (fault_in (nodes_from table pool ranges d first n p.item) (p.count + 1) z x.1) v.1), v.1)

  -- after one without fault: g' makes of what follows what g makes of it with the child
  pub walk_child : (g' : Inside → R) {held : ℕ} {q : List ℕ}
      → (x.0.named ≡ name_at table pool [] (first + p.item) → (fault_of (node_at table pool ranges d (first + p.item)) x.0 ≡ 0) × (held ≡ count_of (node_at table pool ranges d (first + p.item)) x.0) × (q ≡ x.2))
      → (held ≡ count_of (node_at table pool ranges d (first + p.item)) x.0 → g (kid_on x.0 x.1) ≡ g' x.1)
      → Walk d name m fault told (nodes_from table pool ranges d first n p.item) (p.count + 1) z g' q
  walk_child g' u e =
      let v = u child_named in
      record {
        left = x.1;
        reads = ap (content (element d) name) v.2 ∙ x.5;
        faulty = sym (fault_is ∙ rw v.0);
        tells = sym (e v.1) ∙ ap g (sym x.3) ∙ o.tells;
      }
