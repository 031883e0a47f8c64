use Rattle.schema.proofs.Pairs.{attrs_start, attrs_end, attrs_no, attrs_pass}
use Rattle.schema.specs.Shape.{attr_fits}
use mathlib.Core.Path.{sym, ◌∙◌}
use Rattle.schema.proofs.table.Tables.all_attrs.Goals as goal

pub loop-k-init : goal.loop-k-init
loop-k-init c = λ a m i. rw (← attrs_start c.args.self.now.table.now c.args.self.now.pool.now c.args.self.now.ranges.now c.args.rows.first c.args.rows.n)

pub returns-then-not-attr_fits : goal.returns-then-not-attr_fits
returns-then-not-attr_fits c =
    λ a m i. attrs_no c.args.self.now.table.now c.args.self.now.pool.now c.args.self.now.ranges.now _ _ (attr_fits a.pairs) _ c.loop-k-test.true (sym (c.attr_fits.ensures a m i) ∙ c.if-not-attr_fits.true) ∙ c.loop-k.invariant a m i

pub loop-k-preserved : goal.loop-k-preserved
loop-k-preserved c =
    λ a m i. sym (attrs_pass c.args.self.now.table.now c.args.self.now.pool.now c.args.self.now.ranges.now _ _ (attr_fits a.pairs) _ c.loop-k-test.true (sym (c.attr_fits.ensures a m i) ∙ c.if-not-attr_fits.false)) ∙ c.loop-k.invariant a m i

pub returns : goal.returns
returns c =
    λ a m i. sym (attrs_end c.args.self.now.table.now c.args.self.now.pool.now c.args.self.now.ranges.now _ _ (attr_fits a.pairs) _ c.loop-k-test.false) ∙ c.loop-k.invariant a m i
