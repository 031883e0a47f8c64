-- What holds of every element of a tree, and that each was read at its place.
use Rattle.std.specs.Prelude.{ℕ, ◌<◌, ◌≤◌, ◌≡◌, List, [], ◌∷◌, length, drop, get_or}
use Prim.Native.Char.{code}
use Rattle.markup.specs.NamesAndValues.Read.{read}
use Rattle.markup.specs.Elements.{Inside, Tree, element, mk}
use Rattle.markup.specs.Elements.Inside.{end, says, note, elem}
use Rattle.reading.specs.Places.{place_in}

-- p holds of each
abbrev pub Every : (Tree → Type 0) → List Tree → Type 0
Every p [] = Unit
Every p (t ∷ ts) = p t × Every p ts

-- p holds of every element, at any depth
abbrev pub Deeply : (Tree → Type 0) → Inside → Type 0
Deeply p end = Unit
Deeply p (says t k) = Deeply p k
Deeply p (note k) = Deeply p k
Deeply p (elem z n ps i k) = p (mk z n ps i) × Deeply p i × Deeply p k

-- c was read at its place in l, and `<` stands there
pub record ReadAt (l : List ℕ) (c : Tree) : Type 0 where
  pub levels : ℕ
  pub after : List ℕ
  pub reads : element levels (drop (place_in l c) l) ≡ read c after
  pub opens : get_or (drop (place_in l c) l) 0 0 ≡ code "<"
  pub some : 0 < c.from
  pub inside : c.from ≤ length l
