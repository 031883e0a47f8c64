-- Several children of an element by their names.
use Rattle.std.specs.Prelude.{ℕ, ◌<◌, ◌≡◌, Bool, cond, List, [], Option, Some, None, eqb, length, get_or, drop}
use Rattle.markup.specs.NamesAndValues.Read.{read}
use Rattle.markup.specs.Elements.{Inside, Tree, content, element}
use Rattle.nodes.specs.Lookup.{first_named}
use Rattle.nodes.specs.Stands.{Stands}
use Rattle.nodes.specs.declared.Node.{Node}

-- the node at an index, or a missing one
abbrev pub node_at : List Node → ℕ → Node
node_at ns k = get_or ns k (record { at = 0; levels = 0 })

-- a node that is missing becomes the child that is met, where that has the name
unfoldable pub meets : Bool → Node → Node → Node
meets named here n = cond (eqb n.levels 0) (cond named here n) n

-- each node is the first of its name among ts
abbrev pub EachFirst : List ℕ → List Tree → List (List ℕ) → List Node → Type 0
EachFirst s ts xs ns = (k : ℕ) → k < length ns → k < length xs → Stands (node_at ns k).levels (drop (node_at ns k).at s) (first_named (get_or xs k []) ts)

-- from the place rest on stands what is left of an element, and m behind it (None: it was not entered)
abbrev pub Unfinished : List ℕ → Option ℕ → List ℕ → Type 0
Unfinished s (Some rest) m = (d : ℕ) × (n : List ℕ) × (i : Inside) × (content (element d) n (drop rest s) ≡ read i m)
Unfinished s None m = Unit
