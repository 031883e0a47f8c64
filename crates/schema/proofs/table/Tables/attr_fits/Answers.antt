use Rattle.schema.proofs.Pairs.{attr_after, attr_start, attr_end, attr_next, attr_no}
use Rattle.schema.specs.View.{attr_at}
use Rattle.markup.proofs.AtTags.{of_next}
use mathlib.Core.Bool.{false}
use mathlib.Core.Path.{sym, ◌∙◌}
use Rattle.schema.proofs.table.Tables.attr_fits.Goals as goal

pub loop-a-init : goal.loop-a-init
loop-a-init c =
    λ b h a m i. h a m i ∙ attr_start c.args.self.now.table.now c.args.self.now.pool.now c.args.self.now.ranges.now c.args.row a.pairs c.cell-seen.ensures

pub returns : goal.returns
returns c =
    let t = c.args.self.now in
    let a = attr_at t.table.now t.pool.now t.ranges.now c.args.row in
    c.loop-a.invariant c.loop-a.seen (λ y m i. sym (attr_end a c.loop-a.seen) ∙ c.in_default.ensures (attr_after a c.loop-a.seen) y m i)

pub returns-then-not-value_fits : goal.returns-then-not-value_fits
returns-then-not-value_fits c =
    let e = rw (c.is_named-named.ensures, c.part.ensures, c.part-in-Some.ensures) at c.value_fits.ensures in
    let a = attr_at c.args.self.now.table.now c.args.self.now.pool.now c.args.self.now.ranges.now c.args.row in
    c.loop-a.invariant false (of_next (attr_after a c.loop-a.seen) _ c.in-Some.ensures.0 (λ y m i. attr_no a c.loop-a.seen _ y.pairs e (c.if-not-value_fits.true)))

pub loop-a-preserved : goal.loop-a-preserved
loop-a-preserved c =
    let e = rw (c.is_named-named.ensures, c.part.ensures, c.part-in-Some.ensures) at c.value_fits.ensures in
    let g = rw c.part.ensures at c.is_named-named.ensures in
    let a = attr_at c.args.self.now.table.now c.args.self.now.pool.now c.args.self.now.ranges.now c.args.row in
    λ b h. c.loop-a.invariant b (of_next (attr_after a c.loop-a.seen) _ c.in-Some.ensures.0 (λ y m i. h y m i ∙ sym (attr_next a c.loop-a.seen _ y.pairs e (c.if-not-value_fits.false) g)))
