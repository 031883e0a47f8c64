use Rattle.markup.proofs.Cursor.misc_step.Goals.{else-peek-eq60-via-then-peek-eq60+else-peek-eq33, else-peek-eq60-via-else-peek-eq60}
use borrow.Author.Tests.{eq-eqb, ne_eqb}
use Rattle.markup.specs.Bytes.{is_ws}
use Rattle.markup.proofs.AtBytes.{run_onward}
use Rattle.markup.proofs.AtFile.{misc_at}
use Rattle.markup.proofs.Cursor.misc_step.Goals as goal

pub returns : goal.returns
returns c =
    let e = c.run_end-at.ensures.ends is_ws (λ b r k. k) in
    let m = misc_at c.args.s.now c.args.self.at _ e in
    elim c.else-peek-eq60.branch [
      | else-peek-eq60-via-then-peek-eq60+else-peek-eq33 w ↦
          (rw (m, ← c.peek.ensures, eq-eqb _ _ w.if-peek-eq60.true, ← w.peek-then-peek-eq60.ensures, ne_eqb _ _ w.if-peek-eq33.false), run_onward _ _ _ _ e)
      | else-peek-eq60-via-else-peek-eq60 w ↦ (rw (m, ← c.peek.ensures, ne_eqb _ _ w.if-peek-eq60.false), run_onward _ _ _ _ e)
    ]
