use Rattle.std.proofs.Common.{◌∙◌, arith, rules}
use Rattle.markup.specs.Elements.{depth}
use Rattle.reading.specs.Many.{below_root}
use Rattle.schema.proofs.Whole.{root_other, root_unfit, root_refused, root_empty, root_short, root_open}
use Rattle.schema.proofs.Tagged.{head_refused}
use Rattle.schema.proofs.table.Tables.shape.Goals as goal

pub returns-in_default : goal.returns-in_default
returns-in_default c = (λ x m e. absurd (head_refused depth c.args.s.now c.args.root x m e c.in_default.ensures.0), search rules)

pub returns-then-not-same : goal.returns-then-not-same
returns-then-not-same c =
    let a = c.args in
    let t = a.self.now in
    let g = rw (c.name_of.ensures, c.part.ensures) at c.same.ensures in
    (λ x m e. root_other t.table.now t.pool.now t.ranges.now a.s.now a.root x m e _ _ c.in-Some.ensures.0 c.same.result g c.if-not-same.true, search rules)

pub returns-then-not-root_attrs_fit : goal.returns-then-not-root_attrs_fit
returns-then-not-root_attrs_fit c =
    let a = c.args in
    let t = a.self.now in
    let g = rw (c.name_of.ensures, c.part.ensures) at c.same.ensures in
    (λ x m e. root_unfit t.table.now t.pool.now t.ranges.now a.s.now a.root x m e _ _ c.in-Some.ensures.0 c.same.result g c.if-not-same.false c.root_attrs_fit.result (c.root_attrs_fit.ensures t.ranges.now) c.if-not-root_attrs_fit.true, search rules)

pub returns-in-None : goal.returns-in-None
returns-in-None c =
    let a = c.args in
    let t = a.self.now in
    let g = rw (c.name_of.ensures, c.part.ensures) at c.same.ensures in
    (λ x m e. absurd (root_refused t.table.now t.pool.now t.ranges.now a.s.now a.root x m e _ _ c.in-Some.ensures.0 c.same.result g c.if-not-same.false c.root_attrs_fit.result (c.root_attrs_fit.ensures t.ranges.now) c.in-None.ensures.0), search rules)

pub returns-then-enough : goal.returns-then-enough
returns-then-enough c =
    let a = c.args in
    let t = a.self.now in
    let g = rw (c.name_of.ensures, c.part.ensures) at c.same.ensures in
    let w = rw (c.in-Some-Shut.is, c.in-Some-Shut.field-0-is) at c.attributes.ensures in
    (λ x m e. root_empty t.table.now t.pool.now t.ranges.now a.s.now a.root x m e _ _ c.in-Some.ensures.0 c.same.result g c.if-not-same.false c.root_attrs_fit.result (c.root_attrs_fit.ensures t.ranges.now) c.if-not-root_attrs_fit.false w.0 c.children.ensures.0 c.children.ensures.1 (c.enough.ensures t.pool.now t.ranges.now below_root) c.if-enough.true, search rules)

pub returns-else-enough : goal.returns-else-enough
returns-else-enough c =
    let a = c.args in
    let t = a.self.now in
    let g = rw (c.name_of.ensures, c.part.ensures) at c.same.ensures in
    let w = rw (c.in-Some-Shut.is, c.in-Some-Shut.field-0-is) at c.attributes.ensures in
    (λ x m e. root_short t.table.now t.pool.now t.ranges.now a.s.now a.root x m e _ _ c.in-Some.ensures.0 c.same.result g c.if-not-same.false c.root_attrs_fit.result (c.root_attrs_fit.ensures t.ranges.now) c.if-not-root_attrs_fit.false w.0 c.children.ensures.0 c.children.ensures.1 (c.enough.ensures t.pool.now t.ranges.now below_root) (omega (arith, c.in-Some.ensures.1)) c.if-enough.false, search rules)

pub returns-in-Some-Open : goal.returns-in-Some-Open
returns-in-Some-Open c =
    let a = c.args in
    let t = a.self.now in
    let g = rw (c.name_of.ensures, c.part.ensures) at c.same.ensures in
    let w = rw (c.in-Some-Open.is, c.in-Some-Open.field-0-is) at c.attributes.ensures in (
      λ x m e.
          let i = root_open t.table.now t.pool.now t.ranges.now a.s.now a.root x m e _ _ c.in-Some.ensures.0 c.same.result g c.if-not-same.false c.root_attrs_fit.result (c.root_attrs_fit.ensures t.ranges.now) c.if-not-root_attrs_fit.false w.0 in
          c.root_inside.ensures.tells i.0 m i.1 (omega (arith, c.in-Some.ensures.1)) ∙ i.2,
      c.root_inside.ensures.places,
    )
