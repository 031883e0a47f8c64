-- An element as a tree (RULES.md, 1 The markup taken).
use Rattle.std.specs.Prelude.{ℕ, zero, suc, cond, List, [], ◌∷◌, eqb, length, drop, get_or}
use Prim.Native.Char.{code}
use Rattle.laws.specs.Loop.{Step, loop}
use Rattle.laws.specs.Loop.Step.{stop, next}
use Rattle.markup.specs.Bytes.{is_text, front, after}
use Rattle.markup.specs.NamesAndValues.{Read, then}
use Rattle.markup.specs.NamesAndValues.Read.{refused, read}
use Rattle.markup.specs.Comments.{dashed}
use Rattle.markup.specs.Tags.{Pair, Tag, tag, end_tag}

-- what stands in an element, in order: a text, a comment, a child (the bytes left at its `<`, name, attributes, what stands in it); and what follows
pub data Inside : Type 0 where
  end : Inside
  says : List ℕ → Inside → Inside
  note : Inside → Inside
  elem : ℕ → List ℕ → List Pair → Inside → Inside → Inside

pub record Tree : Type 0 where
  pub from : ℕ
  pub named : List ℕ
  pub pairs : List Pair
  pub inside : Inside

-- what stands next in an element
pub data Piece : Type 0 where
  words : List ℕ → Piece
  aside closing child : Piece

abbrev pub tag_piece : List ℕ → ℕ → List ℕ → Read Piece
tag_piece n c l =
    cond (eqb c (code "/")) (then (end_tag n (drop 2 l)) (λ _ m. read closing m))
    (cond (eqb c (code "!")) (then (dashed (drop 2 l)) (λ _ m. read aside m)) (read child l))

-- in an element of the name n: its end tag, a comment, a child that is yet to be read, or a text
unfoldable pub piece : List ℕ → List ℕ → Read Piece
piece n [] = refused
piece n (b ∷ l) = cond (eqb b (code "<")) (tag_piece n (get_or l 0 0) (b ∷ l)) (read (words (front is_text (b ∷ l))) (after is_text (b ∷ l)))

-- a piece before what follows it
abbrev pub onto : (Inside → Inside) → Read Inside → Read Inside
onto f rest = then rest (λ i m. read (f i) m)

abbrev pub after_child : Read Tree → Step (Read Inside)
after_child refused = stop refused
after_child (read t m) = next (onto (elem t.from t.named t.pairs t.inside)) m

abbrev pub after_piece : (List ℕ → Read Tree) → Read Piece → Step (Read Inside)
after_piece kid refused = stop refused
after_piece kid (read (words t) m) = next (onto (says t)) m
after_piece kid (read aside m) = next (onto note) m
after_piece kid (read closing m) = stop (read end m)
after_piece kid (read child m) = after_child (kid m)

-- what stands between the tags of an element of the name n, and its end tag; `kid` reads a child
abbrev pub content_step : (List ℕ → Read Tree) → List ℕ → List ℕ → Step (Read Inside)
content_step kid n l = after_piece kid (piece n l)

unfoldable pub content : (List ℕ → Read Tree) → List ℕ → List ℕ → Read Inside
content kid n l = loop refused (content_step kid n) l

-- M17: "`<X/>` and `<X></X>` mean the same"
abbrev pub after_tag : (List ℕ → Read Tree) → ℕ → Tag → List ℕ → Read Tree
after_tag kid z t l =
    then (cond t.shut (read end l) (content kid t.named l))
    (λ i m. read (record { from = z; named = t.named; pairs = t.pairs; inside = i }) m)

-- an element of at most so many levels (M16): its children are read by the same rule, with one level less left
unfoldable pub element : ℕ → List ℕ → Read Tree
element zero l = refused
element (suc d) l = then (tag l) (after_tag (element d) (length l))

-- M16: "The root is at depth 1; an element at 12 is read, empty or not, one at 13 refused"
abbrev pub depth : ℕ
depth = 12

-- ---- the elements of a tree

-- an element of its parts
abbrev pub mk : ℕ → List ℕ → List Pair → Inside → Tree
mk z n ps i = record { from = z; named = n; pairs = ps; inside = i }

-- an element before what follows it; an element alone
abbrev pub kid_on : Tree → Inside → Inside
kid_on t i = elem t.from t.named t.pairs t.inside i

abbrev pub alone : Tree → Inside
alone t = kid_on t end

-- the children, in order
abbrev pub kids : Inside → List Tree
kids end = []
kids (says t k) = kids k
kids (note k) = kids k
kids (elem z n ps i k) = mk z n ps i ∷ kids k
