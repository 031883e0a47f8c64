use Rattle.judge.proofs.Rows.{kind_rows}
use Rattle.judge.proofs.standing.of_kind.Goals as goal

pub returns : goal.returns
returns c =
    let r = c.args.rows in
    kind_rows r.reg.now r.lo r.hi c.args.kind _ _ c.place_by-lo.ensures c.place_by-hi.ensures
