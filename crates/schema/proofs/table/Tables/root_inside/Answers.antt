use Rattle.std.proofs.Common.{refl, sym, ap, ◌∙◌, arith, rules}
use Rattle.markup.specs.Elements.{kids}
use Rattle.reading.specs.Many.{below_root}
use Rattle.schema.specs.Schema.{Nodes}
use Rattle.schema.specs.Shape.{fault_in}
use Rattle.schema.specs.Table.{schema_at}
use Rattle.schema.specs.View.{held_after}
use Rattle.schema.proofs.Heads.{nodes_start}
use Rattle.schema.proofs.Group.{walk_past, walk_wrong, walk_on, walk_fault, walk_child}
use Rattle.schema.proofs.Whole.{inside_bad, inside_good, held_quiet, further_on, from_one}
use Rattle.schema.proofs.table.Tables.root_inside.Goals as goal

-- The loop's invariant: the fault in what is left is that in all that stands in the root, and what is known says of the children that are left what is said of
-- all of them.

pub loop-next-init : goal.loop-next-init
loop-next-init c =
    let a = c.args in
    let t = a.self.now in
    let r = c.children-rows.ensures in (
      search rules,
      (search rules, tt),
      λ i m e. record { left = i; reads = e; faulty = ap (λ (ns : Nodes). fault_in ns 0 a.from i) (sym (nodes_start t.table.now t.pool.now t.ranges.now below_root 0 r.0 r.1)); tells = refl },
    )

pub returns-in-None : goal.returns-in-None
returns-in-None c =
    let a = c.args in
    let t = a.self.now in
    record {
      tells = λ i m e h.
          let o = c.loop-next.invariant.2 i m e in
          let w = c.in-None.ensures.tells t.ranges.now below_root o.left m o.reads in
          inside_bad (schema_at t.table.now t.pool.now t.ranges.now below_root) a.from i (walk_wrong o w) h;
      places = search rules;
    }

pub returns-in-Some-Past : goal.returns-in-Some-Past
returns-in-Some-Past c =
    let a = c.args in
    let t = a.self.now in
    let b = c.loop-next in
    let sc = schema_at t.table.now t.pool.now t.ranges.now below_root in
    let y = rw (c.in-Some-Past.is, c.in-Some-Past.field-0-is) at c.advance.ensures in
    let p = y.places in
    record {
      tells = λ i m e h.
          let o = b.invariant.2 i m e in
          let w = y.tells t.ranges.now below_root o.left m o.reads in
          let k = walk_past o w.0 w.1 in
          inside_good sc a.from i k.0 (c.answer.ensures.tells sc (from_one b.at _ b.invariant.1) ∙ k.1);
      places = c.answer.ensures.places a.s.now b.at b.invariant.1 (omega arith);
    }

pub loop-next-smaller-in-Some-On : goal.loop-next-smaller-in-Some-On
loop-next-smaller-in-Some-On c =
    let y = rw (c.in-Some-On.is, c.in-Some-On.field-0-is) at c.advance.ensures in
    let p = y.places in
    omega arith

pub loop-next-preserved-in-Some-On : goal.loop-next-preserved-in-Some-On
loop-next-preserved-in-Some-On c =
    let a = c.args in
    let t = a.self.now in
    let b = c.loop-next in
    let y = rw (c.in-Some-On.is, c.in-Some-On.field-0-is) at c.advance.ensures in
    let p = y.places in (
      omega arith,
      further_on b.seen (omega arith) b.invariant.1,
      λ i m e.
          let o = b.invariant.2 i m e in
          let w = y.tells t.ranges.now below_root o.left m o.reads in
          walk_on o (held_quiet (schema_at t.table.now t.pool.now t.ranges.now below_root) b.seen) w.0 w.1 w.2,
    )

pub hold_record-taken-requires : goal.hold_record-taken-requires
hold_record-taken-requires c = c.loop-next.invariant.1

pub returns-in_default : goal.returns-in_default
returns-in_default c =
    let a = c.args in
    let t = a.self.now in
    let b = c.loop-next in
    let n = c.children-rows.result in
    let y = rw (c.in-Some-Child.is, c.in-Some-Child.field-0-is) at c.advance.ensures in
    let p = y.places in
    record {
      tells = λ i m e h.
          let o = b.invariant.2 i m e in
          let w = y.tells t.ranges.now below_root o.left m o.reads in
          let u = c.hold_record-taken.ensures.tells w.0 w.2 w.4 in
          let f = walk_fault t.table.now t.pool.now t.ranges.now a.s.now below_root b.at n.first n.n b.spot.item o c.in-Some-Child.now w p.0 (λ n. c.in_default.ensures.tells w.0 w.2 w.4 n u.1) in
          inside_bad (schema_at t.table.now t.pool.now t.ranges.now below_root) a.from i f.0 f.1;
      places = search rules;
    }

pub overflow_add-spot : goal.overflow_add-spot
overflow_add-spot c =
    let y = rw (c.in-Some-Child.is, c.in-Some-Child.field-0-is) at c.advance.ensures in
    let p = y.places in
    let v = rw c.in-Ok.is at c.past_child.ensures in
    let q = v.places in
    omega arith

pub loop-next-smaller : goal.loop-next-smaller
loop-next-smaller c =
    let v = rw c.in-Ok.is at c.past_child.ensures in
    let q = v.places in
    omega arith

pub loop-next-preserved : goal.loop-next-preserved
loop-next-preserved c =
    let a = c.args in
    let t = a.self.now in
    let b = c.loop-next in
    let n = c.children-rows.result in
    let r = c.hold_record-taken.result.seen in
    let y = rw (c.in-Some-Child.is, c.in-Some-Child.field-0-is) at c.advance.ensures in
    let p = y.places in
    let v = rw c.in-Ok.is at c.past_child.ensures in
    let q = v.places in (
      omega arith,
      further_on r (omega arith) c.hold_record-taken.ensures.counts,
      λ i m e.
          let o = b.invariant.2 i m e in
          let w = y.tells t.ranges.now below_root o.left m o.reads in
          let u = c.hold_record-taken.ensures.tells w.0 w.2 w.4 in
          walk_child t.table.now t.pool.now t.ranges.now a.s.now below_root b.at n.first n.n b.spot.item o c.in-Some-Child.now w p.0 (λ j. held_after (schema_at t.table.now t.pool.now t.ranges.now below_root) r (kids j)) (λ n. v.tells w.0 w.2 w.4 n u.1) (λ _. sym (u.0 (kids w.1))),
    )
