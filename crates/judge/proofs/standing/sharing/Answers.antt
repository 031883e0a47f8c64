use Rattle.judge.proofs.Sharing.{with_one_before, none_before}
use Rattle.judge.proofs.standing.sharing.Goals as goal

pub returns-then-rows-from : goal.returns-then-rows-from
returns-then-rows-from c =
    let r = c.args.rows in
    with_one_before r.reg.now r.lo r.hi c.args.a _ _ _ _ c.date_of.ensures.0 c.end_of.ensures.0 c.place_by-from.ensures c.place_by-hi.ensures c.if-rows-from.true

pub returns-else-rows-from : goal.returns-else-rows-from
returns-else-rows-from c =
    let r = c.args.rows in
    none_before r.reg.now r.lo r.hi c.args.a _ _ _ _ c.date_of.ensures.0 c.end_of.ensures.0 c.place_by-from.ensures c.place_by-hi.ensures c.if-rows-from.false
