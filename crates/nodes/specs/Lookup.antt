-- Looking things up in an element: a child by its name, an attribute's value, a leaf's text. What is not there is empty.
use Rattle.std.specs.Prelude.{ℕ, Bool, cond, List, [], ◌∷◌}
use Rattle.laws.specs.Lists.{any, same}
use Rattle.markup.specs.Tags.{Pair}
use Rattle.markup.specs.Elements.{Inside, Tree, mk, kids}
use Rattle.markup.specs.Elements.Inside.{end, says, note, elem}

-- the element that stands for one that is missing
abbrev pub missing : Tree
missing = mk 0 [] [] end

-- the first of a name
unfoldable pub first_named : List ℕ → List Tree → Tree
first_named x [] = missing
first_named x (t ∷ ts) = cond (same x t.named) t (first_named x ts)

abbrev pub child_of : List ℕ → Tree → Tree
child_of x t = first_named x (kids t.inside)

abbrev pub has_child : List ℕ → Tree → Bool
has_child x t = any (λ c. same x c.named) (kids t.inside)

-- the value of an attribute
unfoldable pub value_in : List ℕ → List Pair → List ℕ
value_in x [] = []
value_in x (p ∷ ps) = cond (same x p.key) p.val (value_in x ps)

abbrev pub attr_of : List ℕ → Tree → List ℕ
attr_of x t = value_in x t.pairs

abbrev pub has_attr : List ℕ → Tree → Bool
has_attr x t = any (λ p. same x p.key) t.pairs

-- the text that a leaf begins with
abbrev pub said : Inside → List ℕ
said end = []
said (says x k) = x
said (note k) = []
said (elem z n ps i k) = []

abbrev pub text_of : Tree → List ℕ
text_of t = said t.inside
