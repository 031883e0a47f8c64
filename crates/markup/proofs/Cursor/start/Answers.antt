use native.Mathlib.Omega.{arith}
use Rattle.markup.specs.Tags.{differ, tag}
use Rattle.markup.proofs.AtTags.{attributes_none}
use Rattle.markup.proofs.Cursor.start.Goals as goal

pub returns-then-peek-eq62 : goal.returns-then-peek-eq62
unfolding tag differ
returns-then-peek-eq62 c =
    let f = attributes_none c.args.s.now c.in_ok-name.name.next.at c.peek.result c.peek.ensures c.if-peek-eq62.true in
    (rw (← c.in_ok-first.ensures.0, ← c.in_ok-name.ensures.0, f.0), omega (arith, c.in_ok-first.ensures, c.in_ok-name.ensures))
