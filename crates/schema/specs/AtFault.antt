-- Which element a fault is in (RULES.md, S25, S26): the node of the schema that an element stands under, and what is wrong with the element by itself.
use Rattle.std.specs.Prelude.{ℕ, suc, ◌<◌, ◌≡◌, ◌⊎◌, Bool, true, false, not, ◌&&◌, [], length, get_or}
use Rattle.laws.specs.Lists.{all}
use Rattle.markup.specs.Bytes.{is_ws}
use Rattle.markup.specs.Elements.{Inside, Tree, mk}
use Rattle.markup.specs.Elements.Inside.{end, says, note, elem}
use Rattle.schema.specs.Schema.{Node, leaf, group, another, Nodes, none, ◌▸◌, Schema}
use Rattle.schema.specs.Shape.{attrs_fit, leaf_fits, Seek, nowhere, here, seek, enough, fault_of, outside, records_of, faulty, shape_of}

-- what stands after a child that was found among the nodes; a child that belongs nowhere there is out of order
abbrev pub onward : (Nodes → ℕ → Bool) → Seek → Bool
onward after nowhere = false
onward after (here n ns k) = after (n ▸ ns) (suc k)

-- S5: "Children come in the schema's order, each as often as the schema says"; S9: "only white space and comments stand beside the children"
unfoldable pub orderly : Nodes → ℕ → Inside → Bool
orderly ns k end = enough ns k
orderly ns k (says t i) = all is_ws t && orderly ns k i
orderly ns k (note i) = orderly ns k i
orderly ns k (elem y n ps j i) = onward (λ ms c. orderly ms c i) (seek n ns k)

-- an element is at fault by itself: S6, "each attribute that the schema requires and none that it doesn't name"; S8, a leaf's text; S5 and S9, a group's
-- children, whatever stands in them
abbrev pub wrong : Node → Tree → Bool
wrong (leaf h x) t = not (attrs_fit [] h.attrs t.pairs && leaf_fits x t.inside)
wrong (group h ns) t = not (attrs_fit [] h.attrs t.pairs && orderly ns 0 t.inside)
wrong (another h) t = false

-- the nodes of a node's children
abbrev pub nodes_in : Node → Nodes
nodes_in (leaf h x) = none
nodes_in (group h ns) = ns
nodes_in (another h) = none

-- c is a child found among the nodes, under the node m; or it stands in one; or after one
abbrev pub child_under : Node → Tree → Tree → (Nodes → Type 0) → (Nodes → ℕ → Type 0) → Seek → Type 0
child_under m c t within after nowhere = ⊥
child_under m c t within after (here n ns k) = ((n ≡ m) × (t ≡ c)) ⊎ (within (nodes_in n) ⊎ after (n ▸ ns) (suc k))

-- c stands in a group, at any depth, under the node m, each child by the node that it stands under (as `fault_in` goes)
unfoldable pub UnderIn : Node → Tree → Nodes → ℕ → Inside → Type 0
UnderIn m c ns k end = ⊥
UnderIn m c ns k (says t i) = UnderIn m c ns k i
UnderIn m c ns k (note i) = UnderIn m c ns k i
UnderIn m c ns k (elem y n ps j i) = child_under m c (mk y n ps j) (λ ms. UnderIn m c ms 0 j) (λ ms q. UnderIn m c ms q i) (seek n ns k)

-- the element t itself, held against the node n, or an element in it
abbrev pub Under : Node → Tree → Node → Tree → Type 0
Under m c n t = ((n ≡ m) × (t ≡ c)) ⊎ UnderIn m c (nodes_in n) 0 t.inside

-- in t, held against n, the element c is at fault by itself, under the node that it stands under; which of several is told, `FileFault` says
pub record AtFault (n : Node) (t c : Tree) : Type 0 where
  pub node : Node
  pub under : Under node c n t
  pub itself : wrong node c ≡ true

-- the file t is told to be at fault in the element c: F6, "record number 0 for a fault outside every record", "else the number of the first bad record", and c
-- is that record or an element in it
pub record FileFault (s : Schema) (t : Tree) (number : ℕ) (c : Tree) : Type 0 where
  pub told : shape_of s t ≡ faulty number c.from
  pub root : number ≡ 0 → (c ≡ t) × (outside s t ≡ false)
  pub inside : (i : ℕ) → number ≡ suc i → (i < length (records_of s t)) × ((d : Tree) → AtFault s.each (get_or (records_of s t) i d) c)
  pub earlier : (i : ℕ) → number ≡ suc i → (j : ℕ) → j < i → (d : Tree) → fault_of s.each (get_or (records_of s t) j d) ≡ 0
