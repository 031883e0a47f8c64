-- PUTTING FILES TOGETHER: elements that were read anywhere, put one after the other under a start tag that was read, are read there as the same trees, in order.
-- A file of one record is the case of one part; a file that keeps an element before each record is the case of two.
use Prim.Native.Nat.{ℕ, suc}
use mathlib.Core.Path.{◌≡◌, refl, sym, ap, subst, ◌∙◌}
use mathlib.Core.Bool.{true}
use mathlib.Core.List.{List, [], ◌∷◌, ◌++◌}
use lib.ListN.{length}
use Rattle.laws.specs.Lists.{all}
use Rattle.markup.specs.Bytes.{in_file}
use Rattle.markup.specs.NamesAndValues.Read.{read}
use Rattle.markup.specs.Tags.{Pair, Tag, tag}
use Rattle.markup.specs.Elements.{Tree, piece, content, element}
use Rattle.markup.specs.Elements.Piece.{child}
use Rattle.markup.specs.Document.{document}
use Rattle.reading.specs.Places.{up_tree}
use Rattle.reading.specs.Print.{end_on}
use Rattle.reading.specs.Printable.{IsName}
use Rattle.reading.specs.Many.{Part, Start, spell, trees, wrapped, wrapped_tree, Allowed, below_root}
use Rattle.laws.proofs.Lists.{all_join}
use Rattle.reading.proofs.Tags.{tag_local, tag_opens}
use Rattle.reading.proofs.Elements.{child_back, element_opens, element_local}
use Rattle.reading.proofs.Steps.{build, on_close, on_child}
use Rattle.reading.proofs.Round.{opened, close_back}
use Rattle.reading.proofs.Files.{document_alone}
use Rattle.reading.proofs.Allowed.{end_allowed}

-- an element that was read is a part
pub part_of : (d : ℕ) (l : List ℕ) (t : Tree) (m : List ℕ) → element d l ≡ read t m → (p : Part d) × (l ≡ p.bytes ++ m) × (t ≡ up_tree (length m) p.tree)
part_of d l t m e = let c = element_local d l t m e in (record { bytes = c.bytes; tree = c.base; reads = λ z. c.again z refl }, c.whole, c.value)

-- a start tag that was read is a start
pub start_of : (l n : List ℕ) (ps : List Pair) (m : List ℕ) → tag l ≡ read (opened n ps) m → (s : Start) × (l ≡ s.bytes ++ m) × (s.named ≡ n) × (s.pairs ≡ ps)
start_of l n ps m e =
    let c = tag_local l (opened n ps) m e in
    (record { bytes = c.bytes; named = n; pairs = ps; reads = λ z. c.again z refl ∙ ap (λ (g : Tag). read g z) (sym c.value) }, c.whole, refl, refl)

start_names : (s : Start) → IsName s.named
start_names s = (tag_opens (s.bytes ++ []) (opened s.named s.pairs) [] (s.reads [])).2

child_here : (d : ℕ) (n l : List ℕ) (t : Tree) (m : List ℕ) → element d l ≡ read t m → piece n l ≡ read child l
child_here d n l t m e = let o = element_opens d l t m e in subst (λ (y : List ℕ). piece n y ≡ read child y) (sym o.is) (child_back n o.h o.x o.starts)

content_parts : (d : ℕ) (n : List ℕ) → IsName n → (ps : List (Part d)) (z : List ℕ) → content (element d) n (spell ps (end_on n z)) ≡ read (trees ps (end_on n z)) z
content_parts d n i [] z = on_close d n (end_on n z) (close_back n z i)
content_parts d n i (p ∷ ps) z =
    let r : List ℕ = spell ps (end_on n z) in
    on_child d n (p.bytes ++ r) (child_here d n (p.bytes ++ r) (up_tree (length r) p.tree) r (p.reads r)) (p.reads r) (content_parts d n i ps z)

-- PUT TOGETHER: in an element
pub assembled : (d : ℕ) (s : Start) (ps : List (Part d)) (z : List ℕ) → element (suc d) (wrapped s ps z) ≡ read (wrapped_tree s ps z) z
assembled d s ps z =
    let x : List ℕ = spell ps (end_on s.named z) in
    build d (s.bytes ++ x) (opened s.named s.pairs) x (trees ps (end_on s.named z)) z (s.reads x) (content_parts d s.named (start_names s) ps z)

-- ---- in a file

spell_allowed : {d : ℕ} (ps : List (Part d)) (r : List ℕ) → Allowed ps → all in_file r ≡ true → all in_file (spell ps r) ≡ true
spell_allowed [] r h a = a
spell_allowed (p ∷ ps) r h a = all_join in_file p.bytes (spell ps r) h.0 (spell_allowed ps r h.1 a)

-- PUT TOGETHER: a whole file
pub assembled_document : (s : Start) (ps : List (Part below_root)) → all in_file s.bytes ≡ true → Allowed ps → document (wrapped s ps []) ≡ read (wrapped_tree s ps []) []
unfolding all
assembled_document s ps h k =
    document_alone (wrapped s ps []) (wrapped_tree s ps [])
    (all_join in_file s.bytes (spell ps (end_on s.named [])) h (spell_allowed ps (end_on s.named []) k (end_allowed s.named [] (start_names s) refl)))
    (assembled below_root s ps [])
