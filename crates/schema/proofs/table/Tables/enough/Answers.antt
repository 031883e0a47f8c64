use Rattle.schema.proofs.Heads.{enough_end, enough_no, enough_on}
use mathlib.Core.Path.{refl, sym, ◌∙◌}
use Rattle.schema.proofs.table.Tables.enough.Goals as goal

pub loop-item-init : goal.loop-item-init
loop-item-init c = λ p r d. refl

pub returns-then-count-cell : goal.returns-then-count-cell
returns-then-count-cell c =
    λ p r d. enough_no c.args.self.now.table.now p r d _ _ _ _ c.loop-item-test.true c.cell.ensures c.if-count-cell.true ∙ c.loop-item.invariant p r d

pub loop-item-preserved : goal.loop-item-preserved
loop-item-preserved c =
    λ p r d. sym (enough_on c.args.self.now.table.now p r d _ _ _ _ c.loop-item-test.true c.cell.ensures c.if-count-cell.false) ∙ c.loop-item.invariant p r d

pub returns : goal.returns
returns c = λ p r d. enough_end c.args.self.now.table.now p r d _ _ _ _ c.loop-item-test.false ∙ c.loop-item.invariant p r d
