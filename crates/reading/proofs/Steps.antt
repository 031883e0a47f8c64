-- An element taken apart and put together, step by step: what locality, the round trip and the laws on parts share.
use Prim.Native.Nat.{ℕ, zero, suc}
use mathlib.Core.Path.{◌≡◌, refl, sym, ap, subst, ◌∙◌}
use mathlib.Core.Bool.{cond}
use mathlib.Core.List.{List}
use lib.ListN.{length}
use Rattle.laws.specs.Loop.Step.{stop, next}
use Rattle.laws.proofs.Fuel.{Shrinks, loop-next, loop-stop, by_steps}
use Rattle.markup.specs.NamesAndValues.{Read}
use Rattle.markup.specs.NamesAndValues.Read.{refused, read}
use Rattle.markup.specs.Tags.{Tag, tag}
use Rattle.markup.specs.Elements.{Inside, Tree, Piece, piece, onto, after_piece, content_step, content, after_tag, element, mk, kid_on}
use Rattle.markup.specs.Elements.Inside.{end, says, note}
use Rattle.markup.specs.Elements.Piece.{words, aside, closing, child}
use Rattle.reading.proofs.Cut.{never, then_is, read_in}
use Rattle.reading.proofs.Elements.{Ends, child_same, content_goes, content_less, element_opens, element_local}

-- what follows the tag
abbrev pub content_of : ℕ → Tag → List ℕ → Read Inside
content_of d g y = cond g.shut (read end y) (content (element d) g.named y)

pub record Built (d : ℕ) (l : List ℕ) (t : Tree) (m : List ℕ) : Type 0 where
  pub start : Tag
  pub rest : List ℕ
  pub inside : Inside
  pub tags : tag l ≡ read start rest
  pub holds : content_of d start rest ≡ read inside m
  pub is : t ≡ mk (length l) start.named start.pairs inside

pub built : (d : ℕ) (l : List ℕ) (t : Tree) (m : List ℕ) → element (suc d) l ≡ read t m → Built d l t m
unfolding element
built d l t m e =
    let p = then_is (tag l) (after_tag (element d) (length l)) e in
    let q = then_is (content_of d p.0 p.1) (λ i m. read (mk (length l) p.0.named p.0.pairs i) m) p.3 in
    let v = read_in q.3 in
    record { start = p.0; rest = p.1; inside = q.0; tags = p.2; holds = q.2 ∙ ap (read q.0) v.1; is = sym v.0 }

pub build : (d : ℕ) (l : List ℕ) (g : Tag) (y : List ℕ) (i : Inside) (m : List ℕ) → tag l ≡ read g y → content_of d g y ≡ read i m → element (suc d) l ≡ read (mk (length l) g.named g.pairs i) m
unfolding element
build d l g y i m e f = rw (e, f)

-- the place of an element is what was left when it was read
pub element_from : (d : ℕ) (l : List ℕ) (t : Tree) (m : List ℕ) → element d l ≡ read t m → t.from ≡ length l
unfolding element
element_from zero l t m e = never cc
element_from (suc d) l t m e = ap (λ (t : Tree). t.from) (built d l t m e).is

-- what stands in an element, one piece after the other
module _ (d : ℕ) (n : List ℕ) where
  pub inside_less : Shrinks (content_step (element d) n)
  inside_less = content_less (element d) (element_local d) (element_opens d) n

  pub on_close : (l : List ℕ) {m : List ℕ} → piece n l ≡ read closing m → content (element d) n l ≡ read end m
  unfolding content
  on_close l e = loop-stop refused (content_step (element d) n) inside_less (ap (after_piece (element d)) e)

  onward : (l : List ℕ) {m : List ℕ} {f : Inside → Inside} {i : Inside} {z : List ℕ}
      → content_step (element d) n l ≡ next (onto f) m → content (element d) n m ≡ read i z → content (element d) n l ≡ read (f i) z
  unfolding content
  onward l {m} {f} e h = loop-next refused (content_step (element d) n) inside_less e ∙ ap (onto f) h

  pub on_words : (l : List ℕ) {t m : List ℕ} {i : Inside} {z : List ℕ} → piece n l ≡ read (words t) m → content (element d) n m ≡ read i z → content (element d) n l ≡ read (says t i) z
  on_words l e h = onward l (ap (after_piece (element d)) e) h

  pub on_note : (l : List ℕ) {m : List ℕ} {i : Inside} {z : List ℕ} → piece n l ≡ read aside m → content (element d) n m ≡ read i z → content (element d) n l ≡ read (note i) z
  on_note l e h = onward l (ap (after_piece (element d)) e) h

  pub on_child : (l : List ℕ) {t : Tree} {m : List ℕ} {i : Inside} {z : List ℕ} → piece n l ≡ read child l → element d l ≡ read t m → content (element d) n m ≡ read i z
      → content (element d) n l ≡ read (kid_on t i) z
  on_child l {t} e k h = onward l {f = kid_on t} (rw (e, k)) h

-- the same the other way: what was read in an element, piece after piece
pub data Pieces (d : ℕ) (n : List ℕ) : List ℕ → Inside → List ℕ → Type 0 where
  closed : {l m : List ℕ} → piece n l ≡ read closing m → Pieces d n l end m
  told : {l t y : List ℕ} {i : Inside} {m : List ℕ} → piece n l ≡ read (words t) y → Ends l y → Pieces d n y i m → Pieces d n l (says t i) m
  noted : {l y : List ℕ} {i : Inside} {m : List ℕ} → piece n l ≡ read aside y → Ends l y → Pieces d n y i m → Pieces d n l (note i) m
  born : {l : List ℕ} {t : Tree} {y : List ℕ} {i : Inside} {m : List ℕ} → element d l ≡ read t y → Ends l y → Pieces d n y i m → Pieces d n l (kid_on t i) m

module _ (d : ℕ) (n : List ℕ) where
  abbrev Told : List ℕ → Type 0
  Told l = (i : Inside) (m : List ℕ) → content (element d) n l ≡ read i m → Pieces d n l i m

  -- one turn
  pieces_turn : (l : List ℕ) → ((f : Read Inside → Read Inside) (y : List ℕ) → content_step (element d) n l ≡ next f y → Told y) → Told l
  unfolding content
  pieces_turn l h i m e = go (piece n l) refl
    where
      under : {f : Inside → Inside} {y : List ℕ} → content_step (element d) n l ≡ next (onto f) y
          → ((j : Inside) → Ends l y → Pieces d n y j m → Pieces d n l (f j) m) → Pieces d n l i m
      under {f} {y} w k =
          let g = content_goes (element d) (element_local d) (element_opens d) n l (onto f) y w in
          let p = then_is (content (element d) n y) (λ i m. read (f i) m) (sym (loop-next refused (content_step (element d) n) (inside_less d n) w) ∙ e) in
          let v = read_in p.3 in
          subst (λ (s : Inside). Pieces d n l s m) v.0 (k p.0 (g.bytes, g.whole) (h (onto f) y w p.0 m (p.2 ∙ ap (read p.0) v.1)))

      over : (r : Read Inside) → content_step (element d) n l ≡ stop r → r ≡ read i m
      over r w = sym (loop-stop refused (content_step (element d) n) (inside_less d n) w) ∙ e

      kin : (o : Read Tree) → element d l ≡ o → piece n l ≡ read child l → Pieces d n l i m
      kin refused w p = let q = over refused (rw (p, w)) in never cc
      kin (read t y) w p = under (rw (p, w)) (λ j q r. born w q r)

      go : (p : Read Piece) → piece n l ≡ p → Pieces d n l i m
      go refused w = let q = over refused (ap (after_piece (element d)) w) in never cc
      go (read (words t) y) w = under (ap (after_piece (element d)) w) (λ j q r. told w q r)
      go (read aside y) w = under (ap (after_piece (element d)) w) (λ j q r. noted w q r)
      go (read closing y) w =
          let q = read_in (over (read end y) (ap (after_piece (element d)) w)) in
          subst (λ (s : Inside). Pieces d n l s m) q.0 (closed (w ∙ ap (read closing) q.1))
      go (read child y) w = kin (element d l) refl (w ∙ ap (read child) (child_same n l y w))

  pub pieces : (l : List ℕ) → Told l
  pieces = by_steps (content_step (element d) n) (inside_less d n) Told pieces_turn
