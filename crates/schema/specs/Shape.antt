-- Of the shape (RULES.md, 2 and F6): a file's tree held against a schema. A fault is told by the bytes left at the `<` of the element refused in; 0 is none.
use Rattle.std.specs.Prelude.{ℕ, zero, suc, Bool, true, false, cond, not, ◌&&◌, ◌||◌, List, [], ◌∷◌, eqb, ltb, leb, length, take}
use Rattle.laws.specs.Lists.{all, any, same}
use Rattle.markup.specs.Bytes.{is_ws}
use Rattle.markup.specs.Tags.{Pair}
use Rattle.markup.specs.Elements.{Inside, Tree, kids}
use Rattle.markup.specs.Elements.Inside.{end, says, note, elem}
use Rattle.schema.specs.Texts.{Texts, fits_text}
use Rattle.schema.specs.Schema.{Attr, Particle, Node, leaf, group, another, Nodes, none, ◌▸◌, particle_of, Schema}

-- the values of the attribute n, M19: "attributes come in any order"
abbrev pub is_named : List ℕ → Pair → Bool
is_named n p = same n p.key

-- an attribute of the schema: there if it is required, and of its texts if it is there
abbrev pub attr_fits : List Pair → Attr → Bool
attr_fits ps a = (not a.required || any (is_named a.named) ps) && all (λ p. not (is_named a.named p) || fits_text a.texts p.val) ps

abbrev pub begins : List ℕ → List ℕ → Bool
begins p n = same p (take (length p) n)

-- S6: "An element has each attribute that the schema requires and none that it doesn't name"; S7: "The root alone may have others"
abbrev pub attrs_fit : List (List ℕ) → List Attr → List Pair → Bool
attrs_fit free attrs ps =
    all (attr_fits ps) attrs && all (λ p. any (λ a. is_named a.named p) attrs || any (λ f. begins f p.key) free) ps

-- a leaf's text, S8: "A leaf .. holds one text or none, and a comment in it is a fault"
abbrev pub leaf_fits : Texts → Inside → Bool
leaf_fits t end = fits_text t []
leaf_fits t (says x end) = fits_text t x
leaf_fits t (says x (says y k)) = false
leaf_fits t (says x (note k)) = false
leaf_fits t (says x (elem z n ps i k)) = false
leaf_fits t (note k) = false
leaf_fits t (elem z n ps i k) = false

-- where a child stands among the nodes still to come, of the first of which k have been; none may be passed over that must come
pub data Seek : Type 0 where
  nowhere : Seek
  here : Node → Nodes → ℕ → Seek

abbrev pub may_come : List ℕ → Particle → ℕ → Bool
may_come x h k = same x h.named && (eqb h.most 0 || ltb k h.most)

unfoldable pub seek : List ℕ → Nodes → ℕ → Seek
seek x none k = nowhere
seek x (n ▸ ns) k = cond (may_come x (particle_of n) k) (here n ns k) (cond (ltb k (particle_of n).least) nowhere (seek x ns 0))

-- none that must come is left
unfoldable pub enough : Nodes → ℕ → Bool
enough none k = true
enough (n ▸ ns) k = leb (particle_of n).least k && enough ns 0

-- the first of two faults
abbrev pub first_fault : ℕ → ℕ → ℕ
first_fault zero f = f
first_fault (suc e) f = suc e

-- a child that opened with y bytes left, and what follows it: `within` is the fault in it by its nodes, `after` the one in what follows
abbrev pub child_fault : (Nodes → ℕ) → (Nodes → ℕ → ℕ) → ℕ → ℕ → List Pair → Inside → Seek → ℕ
child_fault within after z y ps i nowhere = z
child_fault within after z y ps i (here (leaf h t) ns k) =
    first_fault (cond (attrs_fit [] h.attrs ps && leaf_fits t i) 0 y) (after (leaf h t ▸ ns) (suc k))
child_fault within after z y ps i (here (group h ms) ns k) =
    first_fault (cond (attrs_fit [] h.attrs ps) (within ms) y) (after (group h ms ▸ ns) (suc k))
child_fault within after z y ps i (here (another h) ns k) = after (another h ▸ ns) (suc k)

-- the first fault in what stands in a group that opened with z bytes left, by the nodes still to come. S9: "only white space and comments stand beside the
-- children"; S26: "for missing, extra or misplaced children and text between them" the place is the group's
unfoldable pub fault_in : Nodes → ℕ → ℕ → Inside → ℕ
fault_in ns k z end = cond (enough ns k) 0 z
fault_in ns k z (says t i) = cond (all is_ws t) (fault_in ns k z i) z
fault_in ns k z (note i) = fault_in ns k z i
fault_in ns k z (elem y n ps j i) = child_fault (λ ms. fault_in ms 0 y j) (λ ms c. fault_in ms c z i) z y ps j (seek n ns k)

-- the fault in a record, or in any element by its node
abbrev pub fault_of : Node → Tree → ℕ
fault_of (leaf h x) t = cond (attrs_fit [] h.attrs t.pairs && leaf_fits x t.inside) 0 t.from
fault_of (group h ns) t = cond (attrs_fit [] h.attrs t.pairs) (fault_in ns 0 t.from t.inside) t.from
fault_of (another h) t = 0

-- no fault outside the records; S24: "A fault is outside every record where it is in the root's name or attributes, a child of the root that is no
-- `Assistenza`, a text between the records, or that there is no record"
abbrev pub outside : Schema → Tree → Bool
outside s t =
    same s.root t.named && (attrs_fit s.free [] t.pairs && eqb (fault_in s.nodes 0 t.from t.inside) 0)

-- the elements of a name
unfoldable pub named_in : List ℕ → List Tree → List Tree
named_in x [] = []
named_in x (t ∷ ts) = cond (same x t.named) (t ∷ named_in x ts) (named_in x ts)

abbrev pub records_of : Schema → Tree → List Tree
records_of s t = named_in (particle_of s.each).named (kids t.inside)

-- what answer 6 says of a file: of the shape, with so many records; or the number of the record at fault and the fault, 0 for one outside every record
pub data Shape : Type 0 where
  fine : ℕ → Shape
  faulty : ℕ → ℕ → Shape

-- F6: "the number of the first bad record", counted from 1
unfoldable pub first_bad : Node → ℕ → List Tree → Shape
first_bad n i [] = fine i
first_bad n i (r ∷ rs) = cond (eqb (fault_of n r) 0) (first_bad n (suc i) rs) (faulty (suc i) (fault_of n r))

-- F6: "record number 0 for a fault outside every record, which is looked for first"
unfoldable pub shape_of : Schema → Tree → Shape
shape_of s t = cond (outside s t) (first_bad s.each 0 (records_of s t)) (faulty 0 t.from)
