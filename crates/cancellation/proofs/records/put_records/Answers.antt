use Rattle.cancellation.proofs.RecordsPut.{no_records, one_recorded, all_recorded}
use Rattle.cancellation.proofs.records.put_records.Goals as goal

-- The first i records were put, and the events of the others are in the rows that are left.

pub loop-init : goal.loop-init
loop-init c = no_records c.args.choice.now.rows_in.order

pub invariant_of-rest : goal.invariant_of-rest
invariant_of-rest c =
    let r = c.args.choice.now.rows_in in
    record { rows_in = record { order = c.loop.invariant.high; inside = r.inside; few = r.few } }

pub loop-preserved : goal.loop-preserved
loop-preserved c =
    one_recorded c.loop.invariant c.loop-test.true
    c.put_record-done.ensures

pub shape_of-out : goal.shape_of-out
shape_of-out c = c.loop.invariant.put.long

pub returns : goal.returns
returns c = all_recorded c.loop.invariant c.requires c.loop-test.false
