-- One file or many (request E14): elements put together anew under a root's start tag, and the files of one record.
use Rattle.std.specs.Prelude.{ℕ, ◌-◌, ◌≡◌, true, false, List, [], ◌∷◌, ◌++◌, length}
use Rattle.laws.specs.Lists.{all}
use Rattle.markup.specs.Bytes.{in_file}
use Rattle.markup.specs.NamesAndValues.{Read}
use Rattle.markup.specs.NamesAndValues.Read.{refused, read}
use Rattle.markup.specs.Tags.{Pair, tag}
use Rattle.markup.specs.Elements.{Inside, Tree, element, depth, mk, kid_on, alone, kids}
use Rattle.markup.specs.Elements.Inside.{end}
use Rattle.markup.specs.Document.{document, in_markup}
use Rattle.reading.specs.Places.{up_tree}
use Rattle.reading.specs.Everywhere.{Every}
use Rattle.reading.specs.Print.{end_on}

-- the bytes of an element, and the tree they are read as before any z, its places counted to its own end
pub record Part (d : ℕ) : Type 0 where
  pub bytes : List ℕ
  pub tree : Tree
  pub reads : (z : List ℕ) → element d (bytes ++ z) ≡ read (up_tree (length z) tree) z

-- the bytes of a start tag that is no `<X/>`
pub record Start : Type 0 where
  pub bytes : List ℕ
  pub named : List ℕ
  pub pairs : List Pair
  pub reads : (z : List ℕ) → tag (bytes ++ z) ≡ read (record { named = named; pairs = pairs; shut = false }) z

-- parts one after the other before r, and their trees
abbrev pub spell : {d : ℕ} → List (Part d) → List ℕ → List ℕ
spell [] r = r
spell (p ∷ ps) r = p.bytes ++ spell ps r

abbrev pub trees : {d : ℕ} → List (Part d) → List ℕ → Inside
trees [] r = end
trees (p ∷ ps) r = kid_on (up_tree (length (spell ps r)) p.tree) (trees ps r)

-- the parts between the start tag and its end tag, before r
abbrev pub wrapped : {d : ℕ} → Start → List (Part d) → List ℕ → List ℕ
wrapped s ps r = s.bytes ++ spell ps (end_on s.named r)

abbrev pub wrapped_tree : {d : ℕ} → Start → List (Part d) → List ℕ → Tree
wrapped_tree s ps r = mk (length (wrapped s ps r)) s.named s.pairs (trees ps (end_on s.named r))

-- every byte of every part may stand in a file
abbrev pub Allowed : {d : ℕ} → List (Part d) → Type 0
Allowed [] = Unit
Allowed (p ∷ ps) = (all in_file p.bytes ≡ true) × Allowed ps

-- the levels left for the children of a root
abbrev pub below_root : ℕ
below_root = depth - 1

-- the element c of the file f as a part, and where it stands
pub record PartIn (f : List ℕ) (c : Tree) : Type 0 where
  pub part : Part below_root
  pub before : List ℕ
  pub after : List ℕ
  pub stands : f ≡ before ++ (part.bytes ++ after)
  pub place : c.from ≡ length (part.bytes ++ after)
  pub is : c ≡ up_tree (length after) part.tree
  pub allowed : all in_file part.bytes ≡ true

-- the file f with the root t: its start tag and its children as parts
pub record Parted (f : List ℕ) (t : Tree) : Type 0 where
  pub start : Start
  pub lead : List ℕ
  pub rest : List ℕ
  pub stands : f ≡ lead ++ (start.bytes ++ rest)
  pub named : start.named ≡ t.named
  pub pairs : start.pairs ≡ t.pairs
  pub allowed : all in_file start.bytes ≡ true
  pub each : Every (PartIn f) (kids t.inside)

-- the file of one: the root's start tag, the record's bytes and the root's end tag
abbrev pub file_of_one : List ℕ → List ℕ → List ℕ → List ℕ
file_of_one head b n = head ++ (b ++ end_on n [])

-- the record c of the file f with the root t: its bytes stand in f at its place, and the file of one that they make has it alone, `same` but for places
pub record Single (f : List ℕ) (t : Tree) (head : List ℕ) (c : Tree) : Type 0 where
  pub before : List ℕ
  pub bytes : List ℕ
  pub after : List ℕ
  pub same : Tree
  pub stands : f ≡ before ++ (bytes ++ after)
  pub place : c.from ≡ length (bytes ++ after)
  pub long : c ≡ up_tree (length after) same
  pub short : document (file_of_one head bytes t.named) ≡ read (mk (length (file_of_one head bytes t.named)) t.named t.pairs (alone (up_tree (length (end_on t.named [])) same))) []

-- what φ says of the records of a file
module _ {R : Type 0} (φ : Tree → R) where
  abbrev pub said : List Tree → List R
  said [] = []
  said (c ∷ cs) = φ c ∷ said cs

  abbrev pub records : Read Tree → List R
  records refused = []
  records (read t m) = said (kids t.inside)

  -- as many files as records, each in the markup with its record alone
  abbrev pub Files : List R → List (List ℕ) → Type 0
  Files [] [] = Unit
  Files [] (g ∷ gs) = ⊥
  Files (r ∷ rs) [] = ⊥
  Files (r ∷ rs) (g ∷ gs) = (in_markup g ≡ true) × (records (document g) ≡ r ∷ []) × Files rs gs
