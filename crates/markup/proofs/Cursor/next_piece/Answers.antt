use borrow.Author.Tests.{eq-eqb, ne_eqb}
use native.Mathlib.Omega.{arith}
use Rattle.markup.specs.Bytes.{is_text}
use Rattle.markup.specs.View.{part}
use Rattle.markup.proofs.AtElements.{piece_end, piece_text, text_ahead, piece_tag}
use Rattle.markup.proofs.Cursor.next_piece.Goals as goal

pub returns-then-s-at : goal.returns-then-s-at
returns-then-s-at c = (piece_end _ _ _ c.if-s-at.true, tt)

pub returns-then-s-at-ne60 : goal.returns-then-s-at-ne60
returns-then-s-at-ne60 c =
    let s = c.args.s.now in (
      piece_text (part s c.args.name c.args.name_end) s c.args.self.at _ c.if-s-at.false c.if-s-at-ne60.true (c.run_end-end.ensures.ends is_text (λ b r k. k)),
      omega (arith, text_ahead (part s c.args.name c.args.name_end) s c.args.self.at _ c.if-s-at.false c.if-s-at-ne60.true (c.run_end-end.ensures.ends is_text (λ b r k. k))),
    )

pub returns-in_err-done : goal.returns-in_err-done
returns-in_err-done c =
    let p = piece_tag (part c.args.s.now c.args.name c.args.name_end) c.args.s.now c.args.self.at _ c.if-s-at.false c.if-s-at-ne60.false c.peek-b.ensures in
    rw c.from_residual.ensures (rw (p, eq-eqb _ _ c.if-b-eq47.true, ← c.in_err-done.ensures.0), tt)

pub returns-then-b-eq47 : goal.returns-then-b-eq47
returns-then-b-eq47 c =
    let p = piece_tag (part c.args.s.now c.args.name c.args.name_end) c.args.s.now c.args.self.at _ c.if-s-at.false c.if-s-at-ne60.false c.peek-b.ensures in
    (rw (p, eq-eqb _ _ c.if-b-eq47.true, ← c.in_ok-done.ensures.0), omega (arith, c.in_ok-done.ensures))

pub returns-in_err-done-2 : goal.returns-in_err-done-2
returns-in_err-done-2 c =
    let p = piece_tag (part c.args.s.now c.args.name c.args.name_end) c.args.s.now c.args.self.at _ c.if-s-at.false c.if-s-at-ne60.false c.peek-b.ensures in
    rw c.from_residual-in_err-done-2.ensures (rw (p, ne_eqb _ _ c.if-b-eq47.false, eq-eqb _ _ c.if-b-eq33.true, ← c.in_err-done-2.ensures.0), tt)

pub returns-then-b-eq33 : goal.returns-then-b-eq33
returns-then-b-eq33 c =
    let p = piece_tag (part c.args.s.now c.args.name c.args.name_end) c.args.s.now c.args.self.at _ c.if-s-at.false c.if-s-at-ne60.false c.peek-b.ensures in
    (rw (p, ne_eqb _ _ c.if-b-eq47.false, eq-eqb _ _ c.if-b-eq33.true, ← c.in_ok-done-2.ensures.0), omega (arith, c.in_ok-done-2.ensures))

pub returns : goal.returns
returns c =
    let p = piece_tag (part c.args.s.now c.args.name c.args.name_end) c.args.s.now c.args.self.at _ c.if-s-at.false c.if-s-at-ne60.false c.peek-b.ensures in
    (rw (p, ne_eqb _ _ c.if-b-eq47.false, ne_eqb _ _ c.if-b-eq33.false), tt)
