use Rattle.std.proofs.Common.{◌-◌, length, sym, ◌∙◌, arith}
use Rattle.std.proofs.lemmas.Result.{err_from_is_err_and}
use Rattle.schema.specs.declared.table.Kind.TheVariants.{Another, Group}
use Rattle.schema.proofs.Faults.{another_past, another_refused, tag_unfit, tag_shut, tag_open, tag_refused, within_group, within_leaf}
use Rattle.schema.proofs.RowKinds.{not_kind}
use Rattle.schema.proofs.Tagged.{not_past, head_known}
use Rattle.schema.proofs.table.Tables.enter.Goals as goal

pub returns-then-s-at : goal.returns-then-s-at
returns-then-s-at c = let a = c.args in record { tells = λ d x m e n. absurd (not_past d a.s.now a.at x m e c.if-s-at.true); places = tt }

pub returns-in-Another : goal.returns-in-Another
returns-in-Another c =
    let a = c.args in
    let t = a.self.now in
    let u = rw c.in_ok-done.ensures.ok_part at c.skip.ensures in
    record {
      tells = λ d x m e n. another_past t.table.now t.pool.now t.ranges.now a.s.now a.at d a.row x m e c.in-Another.ensures (u.0 d x m e);
      places = u.1;
    }

pub returns-in_err-done : goal.returns-in_err-done
returns-in_err-done c =
    let a = c.args in
    let t = a.self.now in
    let u = rw c.in_err-done.ensures.ok_part at c.skip.ensures in
    let p = err_from_is_err_and c.from_residual.result c.from_residual.ensures.1 in
    rw p.1
    record { tells = λ d x m e n. absurd (another_refused t.table.now t.pool.now t.ranges.now a.s.now a.at d a.row x m e (u.0 d x m e)); places = tt }

pub returns-then-not-attrs_fit : goal.returns-then-not-attrs_fit
returns-then-not-attrs_fit c =
    let a = c.args in
    let t = a.self.now in
    let k = not_kind _ _ Another c.kind-kind.ensures c.in_default.not-Another in
    record {
      tells = λ d x m e n. (tag_unfit t.table.now t.pool.now t.ranges.now a.s.now a.at d a.row x m e k _ _ (head_known d a.s.now a.at x m e (n ∙ sym c.name_of.ensures)) c.attrs_fit.result c.attrs_fit.ensures c.if-not-attrs_fit.true, omega arith);
      places = tt;
    }

pub returns-in_err-done-2 : goal.returns-in_err-done-2
returns-in_err-done-2 c =
    let a = c.args in
    let t = a.self.now in
    let w = rw c.in_err-done-2.ensures.ok_part at c.attributes.ensures in
    let k = not_kind _ _ Another c.kind-kind.ensures c.in_default.not-Another in
    let p = err_from_is_err_and c.from_residual-in_err-done-2.result c.from_residual-in_err-done-2.ensures.1 in
    rw p.1
    record { tells = λ d x m e n. absurd (tag_refused t.table.now t.pool.now t.ranges.now a.s.now a.at d a.row x m e k _ _ (head_known d a.s.now a.at x m e (n ∙ sym c.name_of.ensures)) w.0); places = tt }

pub returns-then-may_be_empty : goal.returns-then-may_be_empty
returns-then-may_be_empty c =
    let a = c.args in
    let t = a.self.now in
    let w = rw (c.in_ok-done-2.ensures.ok_part, c.in-Shut.is) at c.attributes.ensures in
    let k = not_kind _ _ Another c.kind-kind.ensures c.in_default.not-Another in
    record {
      tells = λ d x m e n.
          let v = tag_shut t.table.now t.pool.now t.ranges.now a.s.now a.at d a.row x m e k _ _ (head_known d a.s.now a.at x m e (n ∙ sym c.name_of.ensures)) c.attrs_fit.result c.attrs_fit.ensures c.if-not-attrs_fit.false w.0 in
          let f = v.0 ∙ sym (c.may_be_empty.ensures t.pool.now (d - 1) (length a.s.now - a.at)) in
          (f ∙ rw c.if-may_be_empty.true, v.1, v.2);
      places = omega arith;
    }

pub returns-else-may_be_empty : goal.returns-else-may_be_empty
returns-else-may_be_empty c =
    let a = c.args in
    let t = a.self.now in
    let w = rw (c.in_ok-done-2.ensures.ok_part, c.in-Shut.is) at c.attributes.ensures in
    let k = not_kind _ _ Another c.kind-kind.ensures c.in_default.not-Another in
    record {
      tells = λ d x m e n.
          let v = tag_shut t.table.now t.pool.now t.ranges.now a.s.now a.at d a.row x m e k _ _ (head_known d a.s.now a.at x m e (n ∙ sym c.name_of.ensures)) c.attrs_fit.result c.attrs_fit.ensures c.if-not-attrs_fit.false w.0 in
          let f = v.0 ∙ sym (c.may_be_empty.ensures t.pool.now (d - 1) (length a.s.now - a.at)) in
          (f ∙ rw c.if-may_be_empty.false, omega arith);
      places = tt;
    }

pub returns-in-Group : goal.returns-in-Group
returns-in-Group c =
    let a = c.args in
    let t = a.self.now in
    let w = rw (c.in_ok-done-2.ensures.ok_part, c.in-Open.is) at c.attributes.ensures in
    let k = not_kind _ _ Another c.kind-kind.ensures c.in_default.not-Another in
    record {
      tells = λ d x m e n.
          let v = tag_open t.table.now t.pool.now t.ranges.now a.s.now a.at d a.row x m e k _ _ (head_known d a.s.now a.at x m e (n ∙ sym c.name_of.ensures)) c.attrs_fit.result c.attrs_fit.ensures c.if-not-attrs_fit.false w.0 in
          let g = within_group t.table.now t.pool.now t.ranges.now (d - 1) a.row (length a.s.now - a.at) v.0 c.in-Group.ensures in
          (v.0, v.1, v.2 ∙ g.0, v.3 ∙ g.1);
      places = omega arith;
    }

pub returns-in-Some : goal.returns-in-Some
returns-in-Some c =
    let a = c.args in
    let t = a.self.now in
    let w = rw (c.in_ok-done-2.ensures.ok_part, c.in-Open.is) at c.attributes.ensures in
    let k = not_kind _ _ Another c.kind-kind.ensures c.in_default.not-Another in
    let y = c.in-Some.ensures t.pool.now in
    record {
      tells = λ d x m e n.
          let v = tag_open t.table.now t.pool.now t.ranges.now a.s.now a.at d a.row x m e k _ _ (head_known d a.s.now a.at x m e (n ∙ sym c.name_of.ensures)) c.attrs_fit.result c.attrs_fit.ensures c.if-not-attrs_fit.false w.0 in
          let g = within_leaf t.table.now t.pool.now t.ranges.now (d - 1) a.row (length a.s.now - a.at) v.0 (not_kind _ _ Group c.kind-kind.ensures c.in_default-kind.not-Group) in
          let f = y.tells (d - 1) v.0 m v.1 in
          (v.2 ∙ g.0 ∙ rw f.0, sym (v.3 ∙ g.1), f.1);
      places = let p = y.places in omega arith;
    }

pub returns-in-None : goal.returns-in-None
returns-in-None c =
    let a = c.args in
    let t = a.self.now in
    let w = rw (c.in_ok-done-2.ensures.ok_part, c.in-Open.is) at c.attributes.ensures in
    let k = not_kind _ _ Another c.kind-kind.ensures c.in_default.not-Another in
    record {
      tells = λ d x m e n.
          let v = tag_open t.table.now t.pool.now t.ranges.now a.s.now a.at d a.row x m e k _ _ (head_known d a.s.now a.at x m e (n ∙ sym c.name_of.ensures)) c.attrs_fit.result c.attrs_fit.ensures c.if-not-attrs_fit.false w.0 in
          let g = within_leaf t.table.now t.pool.now t.ranges.now (d - 1) a.row (length a.s.now - a.at) v.0 (not_kind _ _ Group c.kind-kind.ensures c.in_default-kind.not-Group) in
          let f = (c.in-None.ensures t.pool.now).tells (d - 1) v.0 m v.1 in
          (v.2 ∙ g.0 ∙ rw f, omega arith);
      places = tt;
    }
