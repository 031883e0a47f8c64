use Rattle.std.proofs.Common.{◌-◌, length, arith}
use Rattle.std.proofs.lemmas.Result.{err_from_is_err_and}
use Rattle.schema.proofs.Tagged.{has_levels}
use Rattle.schema.proofs.Group.{walk_wrong, walk_on, walk_fault}
use Rattle.schema.proofs.Counts.{count_quiet, count_start, count_past, count_next}
use Rattle.schema.proofs.table.Tables.+fault.Goals as goal

-- `fault` calls itself with one level less. The loop's invariant: the fault and the count of what is left in the group are those of the element.

pub returns-then-levels-eq0 : goal.returns-then-levels-eq0
returns-then-levels-eq0 t c =
    let a = c.args in
    record { tells = λ x m e n. absurd (has_levels a.levels a.s.now a.at x m e c.if-levels-eq0.true); places = tt }

pub loop-next-init : goal.loop-next-init
loop-next-init t c =
    let a = c.args in
    let b = a.self.now in
    let w = rw c.in-Open.is at c.in_ok-next.ensures in
    let r = c.children-rows.ensures in
    let p = w.places in (
      omega arith,
      omega arith,
      omega arith,
      λ x m e n.
          let k = w.tells a.levels x m e n in
          count_start b.table.now b.pool.now b.ranges.now (a.levels - 1) a.row r.0 r.1 (length a.s.now - a.at) k.0 k.1 k.2 k.3,
    )

pub returns-in-Some-Past : goal.returns-in-Some-Past
returns-in-Some-Past t c =
    let a = c.args in
    let t = a.self.now in
    let b = c.loop-next in
    let r = c.children-rows.result in
    let y = rw (c.in-Some-Past.is, c.in-Some-Past.field-0-is) at c.advance.ensures in
    let p = y.places in
    record {
      tells = λ x m e n.
          let o = b.invariant.3 x m e n in
          let w = y.tells t.ranges.now (a.levels - 1) o.left m o.reads in
          let k = count_past t.table.now t.pool.now t.ranges.now (a.levels - 1) a.s.now b.here r.first r.n b.spot.item b.spot.count _ b.total o w.0 w.1 in
          (k.0, k.1, w.2);
      places = omega arith;
    }

pub returns-in-None : goal.returns-in-None
returns-in-None t c =
    let a = c.args in
    let b = c.loop-next in
    record {
      tells = λ x m e n.
          let o = b.invariant.3 x m e n in
          let w = c.in-None.ensures.tells a.self.now.ranges.now (a.levels - 1) o.left m o.reads in
          (walk_wrong o w, omega arith);
      places = tt;
    }

pub loop-next-smaller-in-Some-On : goal.loop-next-smaller-in-Some-On
loop-next-smaller-in-Some-On t c =
    let y = rw (c.in-Some-On.is, c.in-Some-On.field-0-is) at c.advance.ensures in
    let p = y.places in
    omega arith

pub loop-next-preserved-in-Some-On : goal.loop-next-preserved-in-Some-On
loop-next-preserved-in-Some-On t c =
    let a = c.args in
    let b = c.loop-next in
    let y = rw (c.in-Some-On.is, c.in-Some-On.field-0-is) at c.advance.ensures in
    let p = y.places in (
      omega arith,
      omega arith,
      omega arith,
      λ x m e n.
          let o = b.invariant.3 x m e n in
          let w = y.tells a.self.now.ranges.now (a.levels - 1) o.left m o.reads in
          walk_on o (count_quiet _ _ _) w.0 w.1 w.2,
    )

pub returns-in_err-child-in-Some-Child : goal.returns-in_err-child-in-Some-Child
returns-in_err-child-in-Some-Child t c =
    let a = c.args in
    let t = a.self.now in
    let b = c.loop-next in
    let r = c.children-rows.result in
    let y = rw (c.in-Some-Child.is, c.in-Some-Child.field-0-is) at c.advance.ensures in
    let v = c.in_err-child-in-Some-Child.ensures in
    let p = err_from_is_err_and c.from_residual-in_err-child-in-Some-Child.result c.from_residual-in_err-child-in-Some-Child.ensures.1 in
    rw (p.1, p.2)
    record {
      tells = λ x m e n.
          let o = b.invariant.3 x m e n in
          let w = y.tells t.ranges.now (a.levels - 1) o.left m o.reads in
          walk_fault t.table.now t.pool.now t.ranges.now a.s.now (a.levels - 1) b.here r.first r.n b.spot.item o c.in-Some-Child.now w y.places.0 (v.tells w.0 w.2 w.4);
      places = tt;
    }

pub overflow_add-spot : goal.overflow_add-spot
overflow_add-spot t c =
    let y = rw (c.in-Some-Child.is, c.in-Some-Child.field-0-is) at c.advance.ensures in
    let p = y.places in
    let v = c.in_ok-child-in-Some-Child.ensures.places in
    omega arith

pub overflow_add-total : goal.overflow_add-total
overflow_add-total t c =
    let v = c.in_ok-child-in-Some-Child.ensures.places in
    omega arith

pub overflow_add-total-in-Some-Child : goal.overflow_add-total-in-Some-Child
overflow_add-total-in-Some-Child t c =
    let v = c.in_ok-child-in-Some-Child.ensures.places in
    omega arith

pub loop-next-smaller : goal.loop-next-smaller
loop-next-smaller t c =
    let v = c.in_ok-child-in-Some-Child.ensures.places in
    omega arith

pub loop-next-preserved : goal.loop-next-preserved
loop-next-preserved t c =
    let a = c.args in
    let t = a.self.now in
    let b = c.loop-next in
    let r = c.children-rows.result in
    let y = rw (c.in-Some-Child.is, c.in-Some-Child.field-0-is) at c.advance.ensures in
    let p = y.places in
    let v = c.in_ok-child-in-Some-Child.ensures in
    let q = v.places in (
      omega arith,
      omega arith,
      omega arith,
      λ x m e n.
          let o = b.invariant.3 x m e n in
          let w = y.tells t.ranges.now (a.levels - 1) o.left m o.reads in
          count_next t.table.now t.pool.now t.ranges.now (a.levels - 1) a.s.now b.here r.first r.n b.spot.item b.spot.count _ b.total o c.in-Some-Child.now w p.0
          (v.tells w.0 w.2 w.4) (c.marked.ensures.0 t.pool.now t.ranges.now),
    )
