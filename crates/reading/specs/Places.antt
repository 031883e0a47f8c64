-- Places moved: `from` counts the bytes left at an element's `<`, so an element further from the end has larger ones.
use Rattle.std.specs.Prelude.{ℕ, ◌+◌, ◌-◌, List, length}
use Rattle.markup.specs.NamesAndValues.{Read}
use Rattle.markup.specs.NamesAndValues.Read.{refused, read}
use Rattle.markup.specs.Elements.{Inside, Tree}
use Rattle.markup.specs.Elements.Inside.{end, says, note, elem}

-- every place j further from the end
abbrev pub up : ℕ → Inside → Inside
up j end = end
up j (says t k) = says t (up j k)
up j (note k) = note (up j k)
up j (elem z n ps i k) = elem (z + j) n ps (up j i) (up j k)

abbrev pub up_tree : ℕ → Tree → Tree
up_tree j t = record { from = t.from + j; named = t.named; pairs = t.pairs; inside = up j t.inside }

-- every place j nearer to the end
abbrev pub down : ℕ → Inside → Inside
down j end = end
down j (says t k) = says t (down j k)
down j (note k) = note (down j k)
down j (elem z n ps i k) = elem (z - j) n ps (down j i) (down j k)

abbrev pub down_tree : ℕ → Tree → Tree
down_tree j t = record { from = t.from - j; named = t.named; pairs = t.pairs; inside = down j t.inside }

-- what was read, with places counted to the element's own end
abbrev pub own : Read Tree → Read Tree
own refused = refused
own (read t m) = read (down_tree (length m) t) m

-- an element's place in the file l; RULES.md: "Places count bytes from 0"
abbrev pub place_in : List ℕ → Tree → ℕ
place_in l t = length l - t.from
