use Rattle.schema.proofs.Pairs.{attrs_root}
use mathlib.Core.Path.{◌∙◌}
use Rattle.schema.proofs.table.Tables.root_attrs_fit.Goals as goal

pub returns : goal.returns
returns c =
    let t = c.args.self.now in
    λ r a m i.
    rw (← c.attributes.ensures.0, ← c.attributes.ensures.1)
    (c.all_known.ensures r a m i ∙ attrs_root t.table.now t.pool.now r _ _ a.pairs)
