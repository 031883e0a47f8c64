use Prim.Native.Nat.{ℕ}
use mathlib.Core.Path.{◌≡◌, refl, ap, sym}
use mathlib.Core.List.{List, []}
use native.Mathlib.Omega.{arith}
use lib.ListN.{drop}
use Rattle.std.specs.Prelude.{Some}
use Rattle.markup.specs.Elements.{Inside, piece}
use Rattle.markup.specs.View.{view_piece}
use Rattle.markup.specs.declared.Piece.{Piece}
use Rattle.markup.specs.declared.Piece.TheVariants.{Words, Aside, Close, Kid}
use Rattle.nodes.specs.Lookup.{said}
use Rattle.nodes.specs.Stands.{Holds}
use Rattle.nodes.proofs.Walking.{holds_bad, holds_close, holds_kid, holds_note, holds_words}
use Rattle.nodes.proofs.values.text.Goals as goal

-- a leaf that begins with no text
no_words : (s n : List ℕ) (at d : ℕ) {i : Inside} (p : Piece) → Holds d n (drop at s) i → view_piece s at (Some p) ≡ piece n (drop at s)
    → ((a e : ℕ) → p ≡ Words a e → ⊥) → [] ≡ said i
no_words s n at d (Words a e) h k f = absurd (f a e refl)
no_words s n at d (Aside c) h k f = sym (ap said (holds_note h k).is)
no_words s n at d (Close c) h k f = sym (ap said (holds_close h k))
no_words s n at d Kid h k f = sym (holds_kid h k).1

pub returns-in_default : goal.returns-in_default
returns-in_default c = (λ t h. rw (c.in_default.ensures.0 t h), omega arith)

pub returns-in_default-next_piece : goal.returns-in_default-next_piece
returns-in_default-next_piece c = (λ t h. holds_bad (c.in-Some.ensures.0 t h) c.in_default-next_piece.ensures.0, omega arith)

pub returns-in_default-first : goal.returns-in_default-first
returns-in_default-first c =
    (λ t h. no_words c.args.s.now _ _ _ c.in-Some-next_piece.first (c.in-Some.ensures.0 t h) c.in-Some-next_piece.ensures.0 c.in_default-first.not-Words, omega arith)

pub returns : goal.returns
returns c =
    let p = rw c.in-Words.is at c.in-Some-next_piece.ensures in
    (λ t h. sym (ap said (holds_words (c.in-Some.ensures.0 t h) p.0).is), omega (arith, p.1))
