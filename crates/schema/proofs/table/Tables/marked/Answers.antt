use Rattle.std.proofs.Common.{rules}
use Rattle.schema.specs.declared.table.Kind.TheVariants.{Group}
use Rattle.schema.proofs.Counts.{marked_group, marked_other}
use Rattle.schema.proofs.RowKinds.{not_kind}
use Rattle.schema.proofs.table.Tables.marked.Goals as goal

pub returns-in-Group : goal.returns-in-Group
returns-in-Group c =
    (λ p r. marked_group c.args.self.now.table.now p r c.args.row c.in-Group.ensures c.cell.ensures, search rules)

pub returns-in_default : goal.returns-in_default
returns-in_default c =
    (λ p r. marked_other c.args.self.now.table.now p r c.args.row (not_kind _ _ Group c.kind.ensures c.in_default.not-Group), search rules)
