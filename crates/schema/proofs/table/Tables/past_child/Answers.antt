use Rattle.std.proofs.Common.{arith}
use Rattle.reading.specs.Many.{below_root}
use Rattle.schema.proofs.Faults.{another_known}
use Rattle.schema.proofs.table.Tables.past_child.Goals as goal

pub returns-in-Some-Another : goal.returns-in-Some-Another
returns-in-Some-Another c =
    let a = c.args in
    let t = a.self.now in
    let w = c.in-Some-Another.is-0 in
    record {
      tells = λ k m e n h. another_known t.table.now t.pool.now t.ranges.now a.s.now a.at below_root a.row k m e c.in-Some-Another.ensures (rw w at h);
      places = let g = rw w at c.requires in omega arith;
    }
