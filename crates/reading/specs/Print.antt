-- How a tree is printed (RULES.md, U10: "nothing between elements, each element with a start tag and an end tag, one space before an attribute, values in `"`").
use Rattle.std.specs.Prelude.{ℕ, List, [], ◌∷◌, ◌++◌, length}
use Prim.Native.Char.{code}
use Rattle.laws.specs.Lists.{bytes}
use Rattle.markup.specs.Tags.{Pair}
use Rattle.markup.specs.Elements.{Inside, Tree, alone}
use Rattle.markup.specs.Elements.Inside.{end, says, note, elem}

-- the attributes before r, one space before each
abbrev pub pairs_on : List Pair → List ℕ → List ℕ
pairs_on [] r = r
pairs_on (p ∷ ps) r = code " " ∷ (p.key ++ (code "=" ∷ code "\"" ∷ (p.val ++ (code "\"" ∷ pairs_on ps r))))

-- `</n>` before r
abbrev pub end_on : List ℕ → List ℕ → List ℕ
end_on n r = code "<" ∷ code "/" ∷ (n ++ (code ">" ∷ r))

-- what stands in an element, before r
abbrev pub print_on : Inside → List ℕ → List ℕ
print_on end r = r
print_on (says t k) r = t ++ print_on k r
print_on (note k) r = bytes "<!---->" ++ print_on k r
print_on (elem z n ps i k) r = code "<" ∷ (n ++ pairs_on ps (code ">" ∷ print_on i (end_on n (print_on k r))))

-- an element before r, and alone
abbrev pub tree_on : Tree → List ℕ → List ℕ
tree_on t r = print_on (alone t) r

abbrev pub print : Tree → List ℕ
print t = tree_on t []

-- the places: the bytes left at each `<` when it is printed before r
abbrev pub placed : List ℕ → Inside → Inside
placed r end = end
placed r (says t k) = says t (placed r k)
placed r (note k) = note (placed r k)
placed r (elem z n ps i k) = elem (length (print_on (elem z n ps i k) r)) n ps (placed (end_on n (print_on k r)) i) (placed r k)

abbrev pub placed_tree : List ℕ → Tree → Tree
placed_tree r t = record { from = length (tree_on t r); named = t.named; pairs = t.pairs; inside = placed (end_on t.named r) t.inside }
