-- What stands in an element, read again piece after piece: `target` is what f makes of what is left.
use Prim.Native.Nat.{ℕ}
use mathlib.Core.Path.{◌≡◌, refl, sym, ap, ◌∙◌}
use mathlib.Core.List.{List}
use Rattle.laws.specs.Loop.Step.{stop, next}
use Rattle.laws.proofs.Fuel.{loop-next, loop-stop}
use Rattle.markup.specs.NamesAndValues.{Read}
use Rattle.markup.specs.NamesAndValues.Read.{refused, read}
use Rattle.markup.specs.Elements.{Inside, Tree, piece, onto, after_child, after_piece, content_step, content, element, kid_on}
use Rattle.markup.specs.Elements.Inside.{end, says, note}
use Rattle.markup.specs.Elements.Piece.{words, aside, closing, child}
use Rattle.reading.proofs.Cut.{never, then_is, read_in}
use Rattle.reading.proofs.Steps.{inside_less}

pub record Onward {R : Type 0} (d : ℕ) (n : List ℕ) (m : List ℕ) (target : R) (f : Inside → R) (l : List ℕ) : Type 0 where
  pub left : Inside
  pub reads : content (element d) n l ≡ read left m
  pub same : f left ≡ target

pub onward_start : {R : Type 0} (d : ℕ) (n l : List ℕ) (i : Inside) (m : List ℕ) (f : Inside → R) → content (element d) n l ≡ read i m → Onward d n m (f i) f l
onward_start d n l i m f e = record { left = i; reads = e; same = refl }

module _ {R : Type 0} (d : ℕ) (n m : List ℕ) (target : R) (f : Inside → R) (l : List ℕ) (o : Onward d n m target f l) where
  -- a step that goes on with y
  onward_by : (h : Inside → Inside) (y : List ℕ) → content_step (element d) n l ≡ next (onto h) y → Onward d n m target (λ i. f (h i)) y
  unfolding content
  onward_by h y w =
      let p = then_is (content (element d) n y) (λ i m. read (h i) m) (sym (loop-next refused (content_step (element d) n) (inside_less d n) w) ∙ o.reads) in
      let v = read_in p.3 in
      record { left = p.0; reads = p.2 ∙ ap (read p.0) v.1; same = ap f v.0 ∙ o.same }

  -- a step that stops
  stopped : (r : Read Inside) → content_step (element d) n l ≡ stop r → r ≡ read o.left m
  unfolding content
  stopped r w = sym (loop-stop refused (content_step (element d) n) (inside_less d n) w) ∙ o.reads

  pub onward_text : {t y : List ℕ} → read (words t) y ≡ piece n l → Onward d n m target (λ i. f (says t i)) y
  onward_text {t} {y} p = onward_by (says t) y (ap (after_piece (element d)) (sym p))

  pub onward_note : {y : List ℕ} → read aside y ≡ piece n l → Onward d n m target (λ i. f (note i)) y
  onward_note {y} p = onward_by note y (ap (after_piece (element d)) (sym p))

  pub onward_close : {y : List ℕ} → read closing y ≡ piece n l → (f end ≡ target) × (y ≡ m)
  onward_close {y} p =
      let v = read_in (stopped (read end y) (ap (after_piece (element d)) (sym p))) in
      (ap f v.0 ∙ o.same, v.1)

  pub onward_refused : refused ≡ piece n l → ⊥
  onward_refused p = let q = stopped refused (ap (after_piece (element d)) (sym p)) in never cc

  -- a child, and what follows it
  pub onward_child : read child l ≡ piece n l → (t : Tree) × (y : List ℕ) × (element d l ≡ read t y) × Onward d n m target (λ i. f (kid_on t i)) y
  onward_child p = go (element d l) refl
    where
      step : content_step (element d) n l ≡ after_child (element d l)
      step = ap (after_piece (element d)) (sym p)

      go : (r : Read Tree) → element d l ≡ r → (t : Tree) × (y : List ℕ) × (element d l ≡ read t y) × Onward d n m target (λ i. f (kid_on t i)) y
      go refused e = let q = stopped refused (step ∙ ap after_child e) in never cc
      go (read t y) e = (t, y, e, onward_by (kid_on t) y (step ∙ ap after_child e))
