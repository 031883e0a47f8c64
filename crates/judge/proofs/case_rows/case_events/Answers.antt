use Rattle.rows.proofs.Bytes.{fit_of}
use Rattle.register.specs.Search.{probe_key}
use Rattle.home_care.specs.Row.{row_bytes, key_bits}
use Rattle.judge.proofs.CaseRows.{case_rows}
use Rattle.judge.proofs.case_rows.case_events.Goals as goal

pub returns : goal.returns
returns c =
    case_rows c.args.reg.now (probe_key row_bytes key_bits c.args.probe.now) _ _ _ _ (fit_of 8 c.args.reg.now (λ i. (c.type_inv.reg i).fits)) c.count-cases.ensures.0 c.rows_held-rows.ensures.0 c.requires.1 c.case_range.ensures
