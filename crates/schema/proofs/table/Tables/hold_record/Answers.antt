use Rattle.std.proofs.Common.{sym, ◌∙◌, arith, Ok}
use Rattle.reading.specs.Many.{below_root}
use Rattle.schema.specs.View.{ok_over}
use Rattle.schema.proofs.Heads.{same_is}
use Rattle.schema.proofs.Whole.{take_other, take_bad, take_good, further_on, over_ok}
use Rattle.schema.proofs.table.Tables.hold_record.Goals as goal

pub returns-then-not-has_name : goal.returns-then-not-has_name
returns-then-not-has_name c =
    let t = c.args.self.now in
    let w = rw c.in-Ok.is at c.requires in
    record {
      tells = λ k m e. (take_other t.table.now t.pool.now t.ranges.now c.cell-each.ensures k (c.has_name.ensures.tells below_root k m e) c.in-Ok.is c.if-not-has_name.true, tt);
      counts = further_on (Ok c.in-Ok.records) (omega arith) w;
      places = tt;
    }

pub returns-in-Err : goal.returns-in-Err
returns-in-Err c =
    let t = c.args.self.now in
    let w = rw c.in-Ok.is at c.requires in
    record {
      tells = λ k m e.
          let h = c.has_name.ensures.tells below_root k m e in
          (take_bad t.table.now t.pool.now t.ranges.now c.cell-each.ensures k h c.in-Ok.is c.if-not-has_name.false (c.in-Err.ensures.tells k m e (sym (same_is _ _ (sym h ∙ c.if-not-has_name.false)))), tt);
      counts = omega arith;
      places = tt;
    }

pub returns-in-Ok-fault : goal.returns-in-Ok-fault
returns-in-Ok-fault c =
    let t = c.args.self.now in
    let r = c.in-Ok.records in
    let w = rw c.in-Ok.is at c.requires in
    let v = c.in-Ok-fault.ensures in
    let p = v.places in
    let k : ok_over r.number r.over = w.1 in
    record {
      tells = λ k m e.
          let h = c.has_name.ensures.tells below_root k m e in
          let u = v.tells k m e (sym (same_is _ _ (sym h ∙ c.if-not-has_name.false))) in
          (take_good t.table.now t.pool.now t.ranges.now c.cell-each.ensures k h c.in-Ok.is w.1 c.if-not-has_name.false u.0 u.1 c.first_over-over.ensures, u.2);
      counts = (omega arith, rw c.first_over-over.ensures (over_ok r.number r.over _ k));
      places = omega arith;
    }
