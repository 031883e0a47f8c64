use Rattle.std.proofs.Common.{arith}
use Rattle.rows.proofs.Runs.{got_more, got_all}
use Rattle.rows.proofs.reader.read_run.Goals as goal

pub loop-i-preserved : goal.loop-i-preserved
loop-i-preserved c =
    let l = c.loop-i in
    got_more c.args.row.now c.args.at c.args.w c.args.out.now l.out l.i c.get.result (omega arith) c.requires.2 c.get.ensures.value l.invariant

pub returns : goal.returns
returns c = let l = c.loop-i in got_all c.args.row.now c.args.at c.args.w c.args.out.now l.out l.i (omega arith) l.invariant
