use mathlib.Core.Path.{refl}
use borrow.Author.Tests.{eq-eqb, ne_eqb}
use native.Mathlib.Omega.{arith}
use Rattle.markup.specs.Bytes.{is_ws}
use Rattle.laws.proofs.Places.{byte_inside}
use Rattle.markup.proofs.AtTags.{attributes_at}
use Rattle.markup.proofs.Cursor.attributes_step.Goals as goal

pub returns-then-b-eq62 : goal.returns-then-b-eq62
returns-then-b-eq62 c =
    let t = attributes_at c.args.s.now c.args.self.at _ _ (c.run_end-at.ensures.ends is_ws (λ b r k. k)) c.peek-b.ensures in
    let h = byte_inside c.args.s.now c.run_end-at.result _ 62 refl c.peek-b.ensures c.if-b-eq62.true in
    (rw (t, eq-eqb _ _ c.if-b-eq62.true), omega (arith, (c.run_end-at.ensures.ends is_ws (λ b r k. k))))

pub returns-in_err-done : goal.returns-in_err-done
returns-in_err-done c =
    let t = attributes_at c.args.s.now c.args.self.at _ _ (c.run_end-at.ensures.ends is_ws (λ b r k. k)) c.peek-b.ensures in
    rw c.from_residual.ensures (rw (t, ne_eqb _ _ c.if-b-eq62.false, eq-eqb _ _ c.if-b-eq47.true, ← c.in_err-done.ensures.0), tt)

pub returns-then-b-eq47 : goal.returns-then-b-eq47
returns-then-b-eq47 c =
    let t = attributes_at c.args.s.now c.args.self.at _ _ (c.run_end-at.ensures.ends is_ws (λ b r k. k)) c.peek-b.ensures in
    (rw (t, ne_eqb _ _ c.if-b-eq62.false, eq-eqb _ _ c.if-b-eq47.true, ← c.in_ok-done.ensures.0), omega (arith, (c.run_end-at.ensures.ends is_ws (λ b r k. k)), c.in_ok-done.ensures))

pub returns-then-at-from : goal.returns-then-at-from
returns-then-at-from c =
    let t = attributes_at c.args.s.now c.args.self.at _ _ (c.run_end-at.ensures.ends is_ws (λ b r k. k)) c.peek-b.ensures in
    (rw (t, ne_eqb _ _ c.if-b-eq62.false, ne_eqb _ _ c.if-b-eq47.false, eq-eqb _ _ c.if-at-from.true), tt)

pub returns-in_err-attribute : goal.returns-in_err-attribute
returns-in_err-attribute c =
    let t = attributes_at c.args.s.now c.args.self.at _ _ (c.run_end-at.ensures.ends is_ws (λ b r k. k)) c.peek-b.ensures in
    rw c.from_residual-in_err-attribute.ensures (rw (t, ne_eqb _ _ c.if-b-eq62.false, ne_eqb _ _ c.if-b-eq47.false, ne_eqb _ _ c.if-at-from.false, ← c.in_err-attribute.ensures.0), tt)

pub returns : goal.returns
returns c =
    let t = attributes_at c.args.s.now c.args.self.at _ _ (c.run_end-at.ensures.ends is_ws (λ b r k. k)) c.peek-b.ensures in
    (rw (t, ne_eqb _ _ c.if-b-eq62.false, ne_eqb _ _ c.if-b-eq47.false, ne_eqb _ _ c.if-at-from.false, ← c.in_ok-attribute.ensures.0), omega (arith, (c.run_end-at.ensures.ends is_ws (λ b r k. k)), c.in_ok-attribute.ensures))
