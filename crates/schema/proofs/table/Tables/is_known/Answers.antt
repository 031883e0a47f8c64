use Rattle.schema.proofs.Pairs.{names_start, names_end, names_hit, names_pass}
use Rattle.schema.specs.View.{takes}
use mathlib.Core.Path.{sym, ◌∙◌}
use Rattle.schema.proofs.table.Tables.is_known.Goals as goal

pub loop-k-init : goal.loop-k-init
loop-k-init c = λ r. rw (← names_start c.args.self.now.table.now c.args.self.now.pool.now r c.args.rows.first c.args.rows.n)

pub returns-then-takes : goal.returns-then-takes
returns-then-takes c =
    λ r.
    let e = rw (c.name_of.ensures, c.if-takes.true) at c.takes.ensures in
    names_hit c.args.self.now.table.now c.args.self.now.pool.now r _ _ (λ x. takes c.args.free x c.args.key.now) _ c.loop-k-test.true e ∙ c.loop-k.invariant r

pub loop-k-preserved : goal.loop-k-preserved
loop-k-preserved c =
    λ r.
    let e = rw (c.name_of.ensures, c.if-takes.false) at c.takes.ensures in
    sym (names_pass c.args.self.now.table.now c.args.self.now.pool.now r _ _ (λ x. takes c.args.free x c.args.key.now) _ c.loop-k-test.true e) ∙ c.loop-k.invariant r

pub returns : goal.returns
returns c =
    λ r. sym (names_end c.args.self.now.table.now c.args.self.now.pool.now r _ _ (λ x. takes c.args.free x c.args.key.now) _ c.loop-k-test.false) ∙ c.loop-k.invariant r
