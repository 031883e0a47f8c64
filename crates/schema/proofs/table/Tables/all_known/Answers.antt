use Rattle.schema.proofs.Pairs.{pairs_pass, pairs_no, all_taken}
use Rattle.schema.specs.Table.{names_at}
use Rattle.markup.proofs.AtTags.{of_next, of_none}
use Rattle.laws.specs.Lists.{all}
use mathlib.Core.Bool.{true, false}
use mathlib.Core.Path.{sym, ◌∙◌}
use Rattle.schema.proofs.table.Tables.all_known.Goals as goal

pub returns-then-peek-eq62 : goal.returns-then-peek-eq62
unfolding all
returns-then-peek-eq62 c =
    λ r. of_none (all (all_taken c.args.free (names_at c.args.self.now.table.now c.args.self.now.pool.now r c.args.rows.first c.args.rows.n))) c.args.s.now c.args.after c.peek.result c.peek.ensures c.if-peek-eq62.true

pub loop-a-init : goal.loop-a-init
loop-a-init c = λ r b h. h

pub returns : goal.returns
unfolding all
returns c =
    let t = c.args.self.now in
    λ r. c.loop-a.invariant r true (c.in_default.ensures (all (all_taken c.args.free (names_at t.table.now t.pool.now r c.args.rows.first c.args.rows.n))))

pub returns-then-not-is_known : goal.returns-then-not-is_known
returns-then-not-is_known c =
    λ r.
    let q = all_taken c.args.free (names_at c.args.self.now.table.now c.args.self.now.pool.now r c.args.rows.first c.args.rows.n) in
    let e = rw c.part.ensures at (c.is_known.ensures r) in
    c.loop-a.invariant r false (of_next (all q) _ c.in-Some.ensures.0 (λ a m i. pairs_no q _ a.pairs (sym e ∙ c.if-not-is_known.true)))

pub loop-a-preserved : goal.loop-a-preserved
loop-a-preserved c =
    λ r b h.
    let q = all_taken c.args.free (names_at c.args.self.now.table.now c.args.self.now.pool.now r c.args.rows.first c.args.rows.n) in
    let e = rw c.part.ensures at (c.is_known.ensures r) in
    c.loop-a.invariant r b (of_next (all q) _ c.in-Some.ensures.0 (λ a m i. h a m i ∙ sym (pairs_pass q _ a.pairs (sym e ∙ c.if-not-is_known.false))))
