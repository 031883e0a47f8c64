use Rattle.rows.proofs.Bytes.{fit_of}
use Rattle.judge.proofs.CaseRows.{stands_is}
use Rattle.judge.proofs.case_rows.case_stands.Goals as goal

pub returns : goal.returns
returns c =
    λ sound. stands_is c.args.reg.now (fit_of 8 c.args.reg.now (λ i. (c.type_inv.reg i).fits)) sound c.args.probe.now _ _ _ c.count-cases.ensures.0 c.place-i.ensures c.stands.ensures
