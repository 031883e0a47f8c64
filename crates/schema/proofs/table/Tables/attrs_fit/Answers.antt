use Rattle.schema.proofs.Pairs.{attrs_yes, attrs_bad}
use Rattle.schema.proofs.table.Tables.attrs_fit.Goals as goal

pub returns-then-all_attrs : goal.returns-then-all_attrs
returns-then-all_attrs c =
    let t = c.args.self.now in
    λ a m i.
    rw (← c.attributes-rows.ensures.0, ← c.attributes-rows.ensures.1)
    (attrs_yes t.table.now t.pool.now t.ranges.now _ _ a.pairs (c.all_attrs.ensures a m i) c.if-all_attrs.true (c.all_known.ensures t.ranges.now a m i))

pub returns-else-all_attrs : goal.returns-else-all_attrs
returns-else-all_attrs c =
    let t = c.args.self.now in
    λ a m i.
    rw (c.if-all_attrs.false, ← c.attributes-rows.ensures.0, ← c.attributes-rows.ensures.1)
    (attrs_bad t.table.now t.pool.now t.ranges.now _ _ a.pairs (c.all_attrs.ensures a m i) c.if-all_attrs.false)
