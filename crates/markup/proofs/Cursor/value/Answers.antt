use borrow.Author.Rules.{rules}
use native.Mathlib.Omega.{arith}
use Rattle.markup.specs.Bytes.{in_value}
use Rattle.markup.proofs.AtNames.{value_step, value_none}
use Rattle.markup.proofs.Cursor.value.Goals as goal

pub returns-in_ok-next : goal.returns-in_ok-next
returns-in_ok-next c =
    let e = c.run_end-end.ensures.ends (in_value c.peek-q.result) (λ b r k. search rules) in
    (value_step c.args.s.now c.args.self.at _ c.peek-q.ensures _ _ c.if-q.true e c.in_ok-next.ensures.0, omega (arith, e, c.in_ok-next.ensures))

pub returns-in_err-next : goal.returns-in_err-next
returns-in_err-next c =
    let e = c.run_end-end.ensures.ends (in_value c.peek-q.result) (λ b r k. search rules) in
    rw c.from_residual.ensures (value_step c.args.s.now c.args.self.at _ c.peek-q.ensures _ _ c.if-q.true e c.in_err-next.ensures.0, tt)

pub returns-else-q : goal.returns-else-q
returns-else-q c = (value_none c.args.s.now c.args.self.at _ c.peek-q.ensures c.if-q.false, tt)
