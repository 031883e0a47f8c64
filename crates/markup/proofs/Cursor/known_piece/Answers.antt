use lib.ListN.{drop}
use Rattle.markup.specs.NamesAndValues.Read.{refused, read}
use Rattle.markup.specs.View.{part}
use Rattle.markup.proofs.AtElements.{known_close}
use native.Mathlib.Omega.{arith}
use Rattle.markup.proofs.Cursor.known_piece.Goals as goal

pub returns-in_err-done : goal.returns-in_err-done
returns-in_err-done c =
    let s = c.args.s.now in
    let n = part s c.args.name c.args.name_end in
    let x = rw c.part-n.ensures at c.in_err-done.ensures.0 in
    rw c.from_residual.ensures (λ f. known_close n s c.args.self.at c.peek.result c.peek-then-peek-eq60.result c.peek.ensures c.if-peek-eq60.true c.peek-then-peek-eq60.ensures c.if-peek-eq47.true refused x f, tt)

pub returns-then-peek-eq47 : goal.returns-then-peek-eq47
returns-then-peek-eq47 c =
    let s = c.args.s.now in
    let n = part s c.args.name c.args.name_end in
    let x = rw c.part-n.ensures at c.in_ok-done.ensures.0 in
    (λ f. known_close n s c.args.self.at c.peek.result c.peek-then-peek-eq60.result c.peek.ensures c.if-peek-eq60.true c.peek-then-peek-eq60.ensures c.if-peek-eq47.true (read tt (drop c.in_ok-done.done.at s)) x f, omega (arith, c.in_ok-done.ensures))
