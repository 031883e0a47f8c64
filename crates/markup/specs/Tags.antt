-- Start tags with their attributes, and end tags (RULES.md, 1 The markup taken).
use Rattle.std.specs.Prelude.{ℕ, Bool, true, false, cond, not, ◌&&◌, List, [], ◌∷◌, eqb, drop, get_or}
use Prim.Native.Char.{code}
use Rattle.laws.specs.Lists.{same, any}
use Rattle.laws.specs.Loop.{Step, loop}
use Rattle.laws.specs.Loop.Step.{stop, next}
use Rattle.markup.specs.Bytes.{is_ws, run_length}
use Rattle.markup.specs.NamesAndValues.{Read, then, skip_ws, byte, name, value}
use Rattle.markup.specs.NamesAndValues.Read.{refused, read}

-- an attribute
pub record Pair : Type 0 where
  pub key : List ℕ
  pub val : List ℕ

-- M11: "An attribute is a name, `=`, a value; white space must precede it and may surround its `=`"
unfoldable pub attribute : List ℕ → Read Pair
attribute l =
    then (name l) (λ n m. then (byte (code "=") (skip_ws m)) (λ _ m. then (value (skip_ws m)) (λ v m. read (record { key = n; val = v }) m)))

-- what follows a start tag's name: the attributes in order, and whether the tag ends in `/>`
pub record Attributes : Type 0 where
  pub pairs : List Pair
  pub shut : Bool

abbrev pub ending : Bool → Attributes
ending b = record { pairs = []; shut = b }

-- an attribute before those that follow
abbrev pub before : Pair → Read Attributes → Read Attributes
before p rest = then rest (λ a m. read (record { pairs = p ∷ a.pairs; shut = a.shut }) m)

abbrev pub go_on : Read Pair → Step (Read Attributes)
go_on refused = stop refused
go_on (read p m) = next (before p) m

-- after w bytes of white space, M10: "`>` or `/>`", or an attribute, M11: "white space must precede it"
abbrev pub attributes_at : ℕ → List ℕ → Step (Read Attributes)
attributes_at w l =
    cond (eqb (get_or l 0 0) (code ">")) (stop (read (ending false) (drop 1 l)))
    (cond (eqb (get_or l 0 0) (code "/")) (stop (then (byte (code ">") (drop 1 l)) (λ _ m. read (ending true) m)))
    (cond (eqb w 0) (stop refused) (go_on (attribute l))))

unfoldable pub attributes_step : List ℕ → Step (Read Attributes)
attributes_step l = attributes_at (run_length is_ws l) (skip_ws l)

unfoldable pub attributes : List ℕ → Read Attributes
attributes l = loop refused attributes_step l

-- M13: "No two attributes of a tag have the same name"
unfoldable pub differ : List Pair → Bool
differ [] = true
differ (p ∷ ps) = not (any (λ q. same p.key q.key) ps) && differ ps

-- a start tag
pub record Tag : Type 0 where
  pub named : List ℕ
  pub pairs : List Pair
  pub shut : Bool

abbrev pub tag_of : List ℕ → Attributes → List ℕ → Read Tag
tag_of n a l = cond (differ a.pairs) (read (record { named = n; pairs = a.pairs; shut = a.shut }) l) refused

unfoldable pub tag : List ℕ → Read Tag
tag l = then (byte (code "<") l) (λ _ m. then (name m) (λ n m. then (attributes m) (tag_of n)))

-- after `</`, M14: "at once its start tag's name, white space or none, `>`"
unfoldable pub end_tag : List ℕ → List ℕ → Read Unit
end_tag n l = then (name l) (λ m rest. cond (same n m) (byte (code ">") (skip_ws rest)) refused)
