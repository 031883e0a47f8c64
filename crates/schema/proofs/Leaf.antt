-- What stands in an element, by its first piece; a leaf's text, and an element that is empty.
use Prim.Native.Nat.{ℕ, ◌≤◌}
use mathlib.Core.Path.{◌≡◌, refl, sym, ap, ◌∙◌}
use mathlib.Core.Bool.{Bool, true, false, cond}
use mathlib.Core.List.{List, []}
use native.Mathlib.Omega.{arith}
use lib.Dec.{eqb}
use lib.ListN.{drop}
use borrow.Author.Tests.{ne_eqb}
use Rattle.markup.specs.NamesAndValues.{Read}
use Rattle.markup.specs.NamesAndValues.Read.{refused, read}
use Rattle.markup.specs.Elements.{Inside, Tree, Piece, piece, content, element, kid_on}
use Rattle.markup.specs.Elements.Inside.{end, says, note, elem}
use Rattle.markup.specs.Elements.Piece.{words, aside, closing, child}
use Rattle.schema.specs.Texts.{Texts, fits_text}
use Rattle.schema.specs.Shape.{leaf_fits, enough, fault_in}
use Rattle.schema.specs.Table.{kind_cell, first_cell, many_cell, group_kind, cell, texts_of}
use Rattle.std.specs.Bool.{then_some}
use Rattle.markup.specs.View.{view_piece, ahead}
use Rattle.markup.specs.declared.Cursor.{Cursor}
use Rattle.markup.specs.declared.Piece.{Piece as PieceRead}
use Rattle.markup.specs.declared.Piece.TheVariants as read_piece
use Rattle.std.specs.Prelude.{Option, Some, None}
use Rattle.schema.specs.View.{nodes_from, is_end, fault_within, SaysLeaf, ok_leaf}
use Rattle.schema.proofs.Heads.{nodes_start}
use Rattle.schema.proofs.Onward.{Onward, onward_start, onward_text, onward_note, onward_close, onward_refused, onward_child}

-- its first piece, as `known_piece` tells it
module _ (d : ℕ) (n l : List ℕ) (i : Inside) (m : List ℕ) (e : content (element d) n l ≡ read i m) where
  whole : Onward d n m i (λ j. j) l
  whole = onward_start d n l i m (λ j. j) e

  abbrev pub Known : Read Piece → Type 0
  Known r = (piece n l ≡ refused → ⊥) → r ≡ piece n l

  known : piece n l ≡ refused → ⊥
  known p = onward_refused d n m i (λ j. j) l whole (sym p)

  pub first_close : {y : List ℕ} → Known (read closing y) → (i ≡ end) × (y ≡ m)
  first_close p = let x = onward_close d n m i (λ j. j) l whole (p known) in (sym x.0, x.1)

  pub first_text : {t y : List ℕ} → Known (read (words t) y) → (k : Inside) × (content (element d) n y ≡ read k m) × (i ≡ says t k)
  first_text p = let x = onward_text d n m i (λ j. j) l whole (p known) in (x.left, x.reads, sym x.same)

  pub first_note : {y : List ℕ} → Known (read aside y) → (k : Inside) × (content (element d) n y ≡ read k m) × (i ≡ note k)
  first_note p = let x = onward_note d n m i (λ j. j) l whole (p known) in (x.left, x.reads, sym x.same)

  pub first_child : Known (read child l) → (t : Tree) × (k : Inside) × (y : List ℕ) × (i ≡ kid_on t k) × (element d l ≡ read t y) × (content (element d) n y ≡ read k m)
  first_child p = let x = onward_child d n m i (λ j. j) l whole (p known) in (x.0, x.3.left, x.1, sym x.3.same, x.2, x.3.reads)

  pub first_refused : Known refused → ⊥
  first_refused p = onward_refused d n m i (λ j. j) l whole (p known)

-- by the piece that the code reads at a place
module _ (s : List ℕ) (at d : ℕ) (n : List ℕ) (i : Inside) (m : List ℕ) (e : content (element d) n (drop at s) ≡ read i m) where
  -- another piece than the end
  pub end_other : (r : PieceRead) → Known d n (drop at s) i m e (view_piece s at (Some r)) → ((c : Cursor) → r ≡ read_piece.Close c → ⊥) → is_end i ≡ false
  end_other (read_piece.Words a b) p h = ap is_end (first_text d n (drop at s) i m e p).2
  end_other (read_piece.Aside c) p h = ap is_end (first_note d n (drop at s) i m e p).2
  end_other (read_piece.Close c) p h = absurd (h c refl)
  end_other read_piece.Kid p h = ap is_end (first_child d n (drop at s) i m e p).3

  -- another than the end or a text
  pub leaf_other : (x : Texts) (r : PieceRead) → Known d n (drop at s) i m e (view_piece s at (Some r))
      → ((a b : ℕ) → r ≡ read_piece.Words a b → ⊥) → ((c : Cursor) → r ≡ read_piece.Close c → ⊥) → leaf_fits x i ≡ false
  leaf_other x (read_piece.Words a b) p h k = absurd (h a b refl)
  leaf_other x (read_piece.Aside c) p h k = ap (leaf_fits x) (first_note d n (drop at s) i m e p).2
  leaf_other x (read_piece.Close c) p h k = absurd (k c refl)
  leaf_other x read_piece.Kid p h k = ap (leaf_fits x) (first_child d n (drop at s) i m e p).3

-- a leaf's text
pub leaf_text : (x : Texts) (t : List ℕ) (k : Inside) {b : Bool} → b ≡ fits_text x t → b ≡ true → leaf_fits x (says t k) ≡ is_end k
leaf_text x t end e f = sym e ∙ f
leaf_text x t (says u k) e f = refl
leaf_text x t (note k) e f = refl
leaf_text x t (elem y n ps i k) e f = refl

pub leaf_no_text : (x : Texts) (t : List ℕ) (k : Inside) {b : Bool} → b ≡ fits_text x t → b ≡ false → leaf_fits x (says t k) ≡ false
leaf_no_text x t end e f = sym e ∙ f
leaf_no_text x t (says u k) e f = refl
leaf_no_text x t (note k) e f = refl
leaf_no_text x t (elem y n ps i k) e f = refl

-- no text
pub leaf_closes : (s : List ℕ) (x : Texts) {i : Inside} {m : List ℕ} (p : ℕ) → i ≡ end → drop p s ≡ m → (b : Bool) → b ≡ fits_text x [] → SaysLeaf s (leaf_fits x i) m (then_some b p)
leaf_closes s x p e q true f = (ap (leaf_fits x) e ∙ sym f, q)
leaf_closes s x p e q false f = ap (leaf_fits x) e ∙ sym f

pub leaf_closes_at : (s : List ℕ) (at : ℕ) {p : ℕ} (b : Bool) → ahead s at p → ok_leaf s at (then_some b p)
leaf_closes_at s at true h = h
leaf_closes_at s at false h = tt

pub says_leaf_to : (s : List ℕ) (r : Option ℕ) {f g : Bool} (m : List ℕ) → g ≡ f → SaysLeaf s f m r → SaysLeaf s g m r
says_leaf_to s r m e w = rw e w

pub further : (s : List ℕ) (a b : ℕ) (r : Option ℕ) → a ≤ b → ok_leaf s b r → ok_leaf s a r
further s a b (Some p) h k = omega arith
further s a b None h k = tt

-- an element of a row that is empty
module _ (table pool ranges : List ℕ) (d row z : ℕ) where
  pub empty_group : {first n : ℕ} {b : Bool} → cell table pool ranges row kind_cell ≡ group_kind → first ≡ cell table pool ranges row first_cell → n ≡ cell table pool ranges row many_cell
      → b ≡ enough (nodes_from table pool ranges d first n 0) 0 → cond b 0 z ≡ fault_within table pool ranges d row z end
  unfolding fault_in
  empty_group {first} {n} e f m g = rw (e, nodes_start table pool ranges d row f m, g)

  pub empty_leaf : {b : Bool} → (cell table pool ranges row kind_cell ≡ group_kind → ⊥) → b ≡ fits_text (texts_of table pool ranges row) [] → cond b 0 z ≡ fault_within table pool ranges d row z end
  empty_leaf e g =
      let q : eqb (cell table pool ranges row kind_cell) group_kind ≡ false = ne_eqb (cell table pool ranges row kind_cell) group_kind e in
      rw (q, g)
