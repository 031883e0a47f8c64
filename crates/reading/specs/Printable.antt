-- Which trees can be printed and read back (RULES.md, 1 The markup taken).
use Rattle.std.specs.Prelude.{ℕ, zero, suc, ◌<◌, ◌≡◌, true, List, [], ◌∷◌, length, get_or}
use Prim.Native.Char.{code}
use Rattle.laws.specs.Lists.{all}
use Rattle.markup.specs.Bytes.{in_file, is_name_start, is_name, in_value, is_text}
use Rattle.markup.specs.Tags.{Pair, differ}
use Rattle.markup.specs.Elements.{Inside, Tree, alone}
use Rattle.markup.specs.Elements.Inside.{end, says, note, elem}

-- M9: "A name is a letter (A to Z, a to z) or `_`, then letters, digits, `_`, `-`, `.`, `:`"
pub record IsName (n : List ℕ) : Type 0 where
  pub starts : is_name_start (get_or n 0 0) ≡ true
  pub bytes : all is_name n ≡ true

-- attributes, M12: "A value .. holds neither that quote nor `<`"
abbrev pub PairsOk : List Pair → Type 0
PairsOk [] = Unit
PairsOk (p ∷ ps) = IsName p.key × (all (in_value (code "\"")) p.val ≡ true) × PairsOk ps

-- a start tag, M13: "No two attributes of a tag have the same name"
pub record TagOk (n : List ℕ) (ps : List Pair) : Type 0 where
  pub named : IsName n
  pub pairs : PairsOk ps
  pub apart : differ ps ≡ true

-- no text stands first
abbrev pub NoText : Inside → Type 0
NoText end = Unit
NoText (says t k) = ⊥
NoText (note k) = Unit
NoText (elem z n ps i k) = Unit

-- with d levels left: a text is not empty, holds no `<`, and no text follows it
abbrev pub Prints : ℕ → Inside → Type 0
Prints d end = Unit
Prints d (says t k) = (0 < length t) × (all is_text t ≡ true) × NoText k × Prints d k
Prints d (note k) = Prints d k
Prints zero (elem z n ps i k) = ⊥
Prints (suc d) (elem z n ps i k) = TagOk n ps × Prints d i × Prints (suc d) k

-- an element of at most d levels (M16)
abbrev pub Printable : ℕ → Tree → Type 0
Printable d t = Prints d (alone t)

-- values and texts of bytes that may stand in a file
abbrev pub ValuesPlain : List Pair → Type 0
ValuesPlain [] = Unit
ValuesPlain (p ∷ ps) = (all in_file p.val ≡ true) × ValuesPlain ps

abbrev pub Plain : Inside → Type 0
Plain end = Unit
Plain (says t k) = (all in_file t ≡ true) × Plain k
Plain (note k) = Plain k
Plain (elem z n ps i k) = ValuesPlain ps × Plain i × Plain k
