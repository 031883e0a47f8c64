use Rattle.schema.specs.declared.table.Kind.TheVariants.{Group}
use Rattle.schema.proofs.Leaf.{empty_group, empty_leaf}
use Rattle.schema.proofs.RowKinds.{not_kind}
use Rattle.schema.proofs.table.Tables.may_be_empty.Goals as goal

pub returns-in-Group : goal.returns-in-Group
returns-in-Group c =
    let t = c.args.self.now in
    let r = c.children.ensures in
    λ p d z. empty_group t.table.now p t.ranges.now d c.args.row z c.in-Group.ensures r.0 r.1 (c.enough.ensures p t.ranges.now d)

pub returns-in_default : goal.returns-in_default
returns-in_default c =
    let t = c.args.self.now in
    λ p d z. empty_leaf t.table.now p t.ranges.now d c.args.row z (not_kind _ _ Group c.kind.ensures c.in_default.not-Group) (c.fits_text.ensures p)
