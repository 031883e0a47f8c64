use Rattle.schema.proofs.Heads.{seek_end, seek-here, seek_no, seek_on}
use mathlib.Core.Path.{refl, sym, ◌∙◌}
use borrow.Author.Rules.{rules}
use Rattle.schema.proofs.table.Tables.seek.Goals as goal

pub loop-item-init : goal.loop-item-init
loop-item-init c = (search rules, λ r d. refl)

pub returns-then-may_come : goal.returns-then-may_come
returns-then-may_come c =
    record { tells = λ r d. seek-here c.args.self.now.table.now c.args.self.now.pool.now r d _ _ c.args.x.now _ _ c.loop-item-test.true (c.may_come.ensures r) c.if-may_come.true ∙ c.loop-item.invariant.1 r d; places = search rules }

pub returns-then-count-cell : goal.returns-then-count-cell
returns-then-count-cell c =
    record { tells = λ r d. seek_no c.args.self.now.table.now c.args.self.now.pool.now r d _ _ c.args.x.now _ _ c.loop-item-test.true (c.may_come.ensures r) c.if-may_come.false c.cell.ensures c.if-count-cell.true ∙ c.loop-item.invariant.1 r d; places = tt }

pub loop-item-preserved : goal.loop-item-preserved
loop-item-preserved c =
    (search rules, λ r d. sym (seek_on c.args.self.now.table.now c.args.self.now.pool.now r d _ _ c.args.x.now _ _ c.loop-item-test.true (c.may_come.ensures r) c.if-may_come.false c.cell.ensures c.if-count-cell.false) ∙ c.loop-item.invariant.1 r d)

pub returns : goal.returns
returns c =
    record { tells = λ r d. seek_end c.args.self.now.table.now c.args.self.now.pool.now r d _ _ c.args.x.now _ _ c.loop-item-test.false ∙ c.loop-item.invariant.1 r d; places = tt }
