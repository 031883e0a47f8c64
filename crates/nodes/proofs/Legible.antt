-- What reading tells of every element of a file: a place above 0, and a text of bytes that a text may hold.
use Prim.Native.Nat.{ℕ, zero, suc, ◌<◌}
use Prim.Native.Char.{code}
use mathlib.Core.Path.{◌≡◌, refl, subst}
use mathlib.Core.Bool.{Bool, true, false, cond, ◌&&◌}
use mathlib.Core.List.{List, [], ◌∷◌}
use lib.Dec.{eqb}
use lib.ListN.{take, drop, get_or, take-append-drop}
use Rattle.laws.specs.Lists.{all}
use Rattle.laws.proofs.Truth.{and_left, and_right}
use Rattle.laws.proofs.Lists.{all_left, all_right}
use Rattle.markup.specs.Bytes.{in_file, is_text, run_length, front, after}
use Rattle.markup.specs.NamesAndValues.Read.{read}
use Rattle.markup.specs.Elements.{Inside, Tree, tag_piece, piece, content, element, alone}
use Rattle.markup.specs.Elements.Inside.{end}
use Rattle.markup.specs.Elements.Piece.{words}
use Rattle.markup.specs.Document.{document}
use Rattle.reading.proofs.Elements.{tag_no_text}
use Rattle.reading.specs.Places.{place_in}
use Rattle.reading.specs.Everywhere.{Deeply, ReadAt}
use Rattle.reading.proofs.Cut.{never, read_in}
use Rattle.reading.proofs.Leaves.{front-all}
use Rattle.reading.proofs.Steps.{Built, built, Pieces, pieces}
use Rattle.reading.proofs.Steps.Pieces.{closed, told, noted, born}
use Rattle.reading.proofs.Files.{document_is}
use Rattle.reading.proofs.Places.{tag_ends, deeply_map, place_reads}
use Rattle.nodes.specs.Lookup.{said, text_of}

-- S15: "any that a text may hold"
abbrev pub in_text : ℕ → Bool
in_text b = in_file b && is_text b

pub record Legible (c : Tree) : Type 0 where
  pub placed : 0 < c.from
  pub prose : all in_text (text_of c) ≡ true

all_and : (p q : ℕ → Bool) (l : List ℕ) → all p l ≡ true → all q l ≡ true → all (λ b. p b && q b) l ≡ true
unfolding all
all_and p q [] h k = refl
all_and p q (b ∷ l) h k =
    rw (and_left (p b) (all p l) h, and_left (q b) (all q l) k) (all_and p q l (and_right (p b) (all p l) h) (and_right (q b) (all q l) k))

all_drop : (p : ℕ → Bool) (k : ℕ) (l : List ℕ) → all p l ≡ true → all p (drop k l) ≡ true
all_drop p k l h = all_right p (take k l) (drop k l) (rw (take-append-drop k l) h)

all_take : (p : ℕ → Bool) (k : ℕ) (l : List ℕ) → all p l ≡ true → all p (take k l) ≡ true
all_take p k l h = all_left p (take k l) (drop k l) (rw (take-append-drop k l) h)

words_prose : (n l t m : List ℕ) → piece n l ≡ read (words t) m → all in_file l ≡ true → all in_text t ≡ true
unfolding piece
words_prose n [] t m e h = never cc
words_prose n (b ∷ l) t m e h = go (eqb b (code "<")) e
  where
    whole : all in_text (front is_text (b ∷ l)) ≡ true
    whole = all_and in_file is_text (front is_text (b ∷ l)) (all_take in_file (run_length is_text (b ∷ l)) (b ∷ l) h) (front-all is_text (b ∷ l))

    go : (u : Bool) → cond u (tag_piece n (get_or l 0 0) (b ∷ l)) (read (words (front is_text (b ∷ l))) (after is_text (b ∷ l))) ≡ read (words t) m → all in_text t ≡ true
    go true k = absurd (tag_no_text n (get_or l 0 0) (b ∷ l) t m k)
    go false k = let q : front is_text (b ∷ l) ≡ t = cc in rw q at whole

pieces_prose : (d : ℕ) (n : List ℕ) {l : List ℕ} {i : Inside} {m : List ℕ} → Pieces d n l i m → all in_file l ≡ true → all in_text (said i) ≡ true
unfolding all
pieces_prose d n (closed e) h = refl
pieces_prose d n (told {l = l} {t = t} {y = y} p e r) h = words_prose n l t y p h
pieces_prose d n (noted p e r) h = refl
pieces_prose d n (born p e r) h = refl

element_prose : (d : ℕ) (l : List ℕ) (t : Tree) (m : List ℕ) → element d l ≡ read t m → all in_file l ≡ true → all in_text (text_of t) ≡ true
unfolding element all
element_prose zero l t m e h = never cc
element_prose (suc d) l t m e h = go (built d l t m e)
  where
    inner : (b : Built d l t m) (s : Bool) → cond s (read end b.rest) (content (element d) b.start.named b.rest) ≡ read b.inside m → all in_text (said b.inside) ≡ true
    inner b true u = subst (λ (i : Inside). all in_text (said i) ≡ true) (read_in u).0 refl
    inner b false u =
        let w = tag_ends l b.start b.rest b.tags in
        pieces_prose d b.start.named (pieces d b.start.named b.rest b.inside m u) (all_right in_file w.0 b.rest (rw w.1 at h))

    go : Built d l t m → all in_text (text_of t) ≡ true
    go b = rw b.is (inner b b.start.shut b.holds)

-- EVERY ELEMENT OF A FILE IS LEGIBLE
pub document_legible : (l : List ℕ) (t : Tree) (m : List ℕ) → document l ≡ read t m → Deeply Legible (alone t)
document_legible l t m e =
    let a = (document_is l t m e).0.allowed in
    deeply_map (ReadAt l) Legible
    (λ c r. record { placed = r.some; prose = element_prose r.levels (drop (place_in l c) l) c r.after r.reads (all_drop in_file (place_in l c) l a) })
    (alone t) (place_reads l t m e)
