use borrow.Author.Rules.{rules}
use Prim.Native.Nat.{◌+◌}
use mathlib.Core.Path.{refl, ap, ◌∙◌}
use lib.ListN.{drop}
use Rattle.laws.proofs.Places.{byte_inside}
use Rattle.markup.specs.Bytes.{in_value, is_name, is_text}
use Rattle.markup.specs.NamesAndValues.{byte}
use Rattle.markup.proofs.AtBytes.{run_after, run_onward}
use Rattle.markup.proofs.AtNames.{ok_move_back}
use Rattle.markup.proofs.AtTags.{attributes_none}
use Rattle.reading.proofs.Skipping.{pend_start, pend_last, pend_close, pend_note, pend_no_note, pend_shut, pend_open, no_more, none_past, tag_plain}
use native.Mathlib.Omega.{arith}
use Rattle.reading.proofs.skips.past.Goals as goal

-- The invariant: so many elements are open, and what is left after the outermost is what is left of the one that was entered.

pub returns-then-s-from : goal.returns-then-s-from
returns-then-s-from c = (λ d n i m e. none_past c.args.s.now c.args.from d n (omega arith) e, tt)

pub loop-last-init : goal.loop-last-init
loop-last-init c = (omega arith, omega arith, omega arith, omega arith, λ d n i m e. pend_start d n (drop c.args.from c.args.s.now) i m e)

pub returns-then-open-eq1 : goal.returns-then-open-eq1
returns-then-open-eq1 c =
    let q = c.run_end-q.ensures.ends is_text (λ b r k. k) in
    let f = byte_inside c.args.s.now (c.run_end-q.result + 1) c.peek-b.result 47 refl c.peek-b.ensures c.if-b-eq47.true in
    let z = c.run_end.ensures.ends (in_value 62) (λ b r k. search rules) in (
      λ d n i m e. c.expect.ensures.0 ∙ ap (byte 62) (run_after (in_value 62) c.args.s.now (c.run_end-q.result + 2) c.run_end.result z) ∙ pend_last c.args.s.now c.loop-last.at c.run_end-q.result c.peek-b.result q (omega arith) c.peek-b.ensures c.loop-last.«open» m (c.loop-last.invariant.4 d n i m e) c.if-open-eq1.true c.if-b-eq47.true,
      ok_move_back c.args.s.now c.args.from c.run_end.result c.expect.result (omega arith) c.expect.ensures.1,
    )

pub loop-last-smaller-then-b-eq47 : goal.loop-last-smaller-then-b-eq47
loop-last-smaller-then-b-eq47 c =
    let f = byte_inside c.args.s.now (c.run_end-q.result + 1) c.peek-b.result 47 refl c.peek-b.ensures c.if-b-eq47.true in
    omega arith

pub loop-last-preserved-then-b-eq47 : goal.loop-last-preserved-then-b-eq47
loop-last-preserved-then-b-eq47 c =
    let q = c.run_end-q.ensures.ends is_text (λ b r k. k) in
    let f = byte_inside c.args.s.now (c.run_end-q.result + 1) c.peek-b.result 47 refl c.peek-b.ensures c.if-b-eq47.true in
    (omega arith, omega arith, omega arith, omega arith, λ d n i m e. pend_close c.args.s.now c.loop-last.at c.run_end-q.result c.peek-b.result q (omega arith) c.peek-b.ensures c.loop-last.«open» m (c.loop-last.invariant.4 d n i m e) c.loop-last.invariant.2 c.if-open-eq1.false c.if-b-eq47.true)

pub returns-in_err-done : goal.returns-in_err-done
returns-in_err-done c =
    let q = c.run_end-q.ensures.ends is_text (λ b r k. k) in
    let f = byte_inside c.args.s.now (c.run_end-q.result + 1) c.peek-b.result 33 refl c.peek-b.ensures c.if-b-eq33.true in
    rw c.from_residual.ensures (λ d n i m e. pend_no_note c.args.s.now c.loop-last.at c.run_end-q.result c.peek-b.result q (omega arith) c.peek-b.ensures c.loop-last.«open» m (c.loop-last.invariant.4 d n i m e) c.loop-last.invariant.2 c.if-b-eq33.true c.in_err-done.ensures.0, tt)

pub loop-last-smaller-then-b-eq33 : goal.loop-last-smaller-then-b-eq33
loop-last-smaller-then-b-eq33 c =
    omega (arith, c.in_ok-done.ensures)

pub loop-last-preserved-then-b-eq33 : goal.loop-last-preserved-then-b-eq33
loop-last-preserved-then-b-eq33 c =
    let q = c.run_end-q.ensures.ends is_text (λ b r k. k) in
    let f = byte_inside c.args.s.now (c.run_end-q.result + 1) c.peek-b.result 33 refl c.peek-b.ensures c.if-b-eq33.true in
    let x = c.in_ok-done.ensures in
    (omega arith, omega arith, omega arith, omega arith, λ d n i m e. pend_note c.args.s.now c.loop-last.at c.run_end-q.result c.peek-b.result q (omega arith) c.peek-b.ensures c.loop-last.«open» m (c.loop-last.invariant.4 d n i m e) c.loop-last.invariant.2 c.if-b-eq33.true x.0)

pub loop-last-smaller-then-peek-eq62 : goal.loop-last-smaller-then-peek-eq62
loop-last-smaller-then-peek-eq62 c =
    let f = attributes_none c.args.s.now c.run_end-end.result c.peek.result c.peek.ensures c.if-peek-eq62.true in
    omega arith

pub loop-last-preserved-then-peek-eq62 : goal.loop-last-preserved-then-peek-eq62
loop-last-preserved-then-peek-eq62 c =
    let q = c.run_end-q.ensures.ends is_text (λ b r k. k) in
    let f = attributes_none c.args.s.now c.run_end-end.result c.peek.result c.peek.ensures c.if-peek-eq62.true in
    (omega arith, omega arith, omega arith, omega arith, λ d n i m e. pend_open c.args.s.now c.loop-last.at c.run_end-q.result c.peek-b.result q (omega arith) c.peek-b.ensures c.loop-last.«open» m (c.loop-last.invariant.4 d n i m e) c.loop-last.invariant.2 c.if-b-eq47.false c.if-b-eq33.false (tag_plain c.args.s.now c.run_end-q.result c.run_end-end.result c.peek.result (c.run_end-end.ensures.ends is_name (λ b r k. k)) c.peek.ensures c.if-peek-eq62.true) refl)

pub returns-in_err-done-2 : goal.returns-in_err-done-2
returns-in_err-done-2 c =
    let s = c.args.s.now in
    let q = c.run_end-q.ensures.ends is_text (λ b r k. k) in
    rw c.from_residual-in_err-done-2.ensures (
      λ d n i m e.
          no_more s c.loop-last.at c.run_end-q.result c.peek-b.result q c.peek-b.ensures c.loop-last.«open» m (c.loop-last.invariant.4 d n i m e) c.loop-last.invariant.2 c.if-b-eq47.false c.if-b-eq33.false c.in_err-done-2.ensures.0,
      tt,
    )

pub loop-last-smaller-in-Shut : goal.loop-last-smaller-in-Shut
loop-last-smaller-in-Shut c =
    let x = rw c.in-Shut.is at c.in_ok-done-2.ensures in
    omega arith

pub loop-last-preserved-in-Shut : goal.loop-last-preserved-in-Shut
loop-last-preserved-in-Shut c =
    let q = c.run_end-q.ensures.ends is_text (λ b r k. k) in
    let x = rw c.in-Shut.is at c.in_ok-done-2.ensures in
    (omega arith, omega arith, omega arith, omega arith, λ d n i m e. pend_shut c.args.s.now c.loop-last.at c.run_end-q.result c.peek-b.result q (omega arith) c.peek-b.ensures c.loop-last.«open» m (c.loop-last.invariant.4 d n i m e) c.loop-last.invariant.2 c.if-b-eq47.false c.if-b-eq33.false x.0 refl)

pub loop-last-smaller : goal.loop-last-smaller
loop-last-smaller c =
    let x = rw c.in-Open.is at c.in_ok-done-2.ensures in
    omega arith

pub loop-last-preserved : goal.loop-last-preserved
loop-last-preserved c =
    let q = c.run_end-q.ensures.ends is_text (λ b r k. k) in
    let x = rw c.in-Open.is at c.in_ok-done-2.ensures in
    (omega arith, omega arith, omega arith, omega arith, λ d n i m e. pend_open c.args.s.now c.loop-last.at c.run_end-q.result c.peek-b.result q (omega arith) c.peek-b.ensures c.loop-last.«open» m (c.loop-last.invariant.4 d n i m e) c.loop-last.invariant.2 c.if-b-eq47.false c.if-b-eq33.false x.0 refl)

pub overflow_add-q : goal.overflow_add-q
overflow_add-q c = omega (arith, run_onward is_text c.args.s.now c.loop-last.at c.run_end-q.result (c.run_end-q.ensures.ends is_text (λ b r k. k)))

pub overflow_add-q-else-b-eq33 : goal.overflow_add-q-else-b-eq33
overflow_add-q-else-b-eq33 c = omega (arith, run_onward is_text c.args.s.now c.loop-last.at c.run_end-q.result (c.run_end-q.ensures.ends is_text (λ b r k. k)))
