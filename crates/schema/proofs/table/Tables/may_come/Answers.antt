use Rattle.std.proofs.Common.{◌∙◌}
use Rattle.laws.proofs.Library.{same_is}
use Rattle.schema.proofs.Heads.{may_come_lem}
use Rattle.schema.proofs.table.Tables.may_come.Goals as goal

pub returns : goal.returns
returns c =
    let t = c.args.self.now in
    let e = c.eq.ensures ∙ same_is c.args.x.now c.name_of.result.now in
    λ r. may_come_lem t.table.now t.pool.now r _ _ c.args.x.now c.cell-most.ensures (rw c.name_of.ensures at e)
