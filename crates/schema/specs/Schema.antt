-- A schema as a value (RULES.md, 2 The shape of a record; SIAD 6.4, 4.5.2 and 4.6.2).
use Rattle.std.specs.Prelude.{ℕ, Bool, List}
use Rattle.schema.specs.Texts.{Texts}

-- an attribute: its name, whether it is required, and its values
pub record Attr : Type 0 where
  pub named : List ℕ
  pub required : Bool
  pub texts : Texts

-- an element: its name, how often it may stand in its place (most 0: any number of times), its attributes, and whether it is counted
pub record Particle : Type 0 where
  pub named : List ℕ
  pub least : ℕ
  pub most : ℕ
  pub attrs : List Attr
  pub counted : Bool

mutual
  -- S8: "A leaf, an element without child elements in the schema"; a group's children come in order; a record is held against its own node
  pub data Node : Type 0 where
    leaf : Particle → Texts → Node
    group : Particle → Nodes → Node
    another : Particle → Node

  pub data Nodes : Type 0 where
    none : Nodes
    ◌▸◌ : Node → Nodes → Nodes

infixr 20 ◌▸◌
abbrev pub particle_of : Node → Particle
particle_of (leaf h t) = h
particle_of (group h ns) = h
particle_of (another h) = h

-- a file's schema: the root's name, how the names of its attributes may begin, its children with the records among them, the record, and how many counted
-- elements a record may have
pub record Schema : Type 0 where
  pub root : List ℕ
  pub free : List (List ℕ)
  pub nodes : Nodes
  pub each : Node
  pub most : ℕ
