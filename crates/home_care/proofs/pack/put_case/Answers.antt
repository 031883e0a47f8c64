use Rattle.std.proofs.Common.{arith}
use Rattle.rows.proofs.Writing.{wrote_then}
use Rattle.home_care.proofs.pack.put_case.Goals as goal

pub returns : goal.returns
returns c =
    record { wrote = wrote_then c.put.ensures.wrote (wrote_then c.put_each.ensures.wrote c.put_each-2.ensures.wrote); result_value = omega (arith, c.requires.case_fits) }
