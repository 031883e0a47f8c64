use Rattle.rows.proofs.Bytes.{fit_of}
use Rattle.rows.proofs.Steps.{one_shl}
use Rattle.rows.proofs.Reading.{got}
use native.Mathlib.Omega.{arith}
use Rattle.rows.proofs.reader.get.Goals as goal

pub returns : goal.returns
returns c =
    let a = c.args in
    rw (one_shl 64 a.w (omega arith)) (got a.row.now a.at a.w c.word-acc.result (fit_of 8 a.row.now (λ i. (c.type_inv.row i).fits)) c.requires.1 c.word-acc.ensures.1)
