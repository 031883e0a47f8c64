use Rattle.days.proofs.Firsts.{first_below}
use native.Mathlib.Omega.{arith}
use Rattle.days.proofs.table.first_of.Goals as goal

pub returns : goal.returns
returns c =
    let h = c.args.t.now.firsts_hold c.args.month c.requires in
    (h, omega (arith, h, first_below c.args.month c.requires))
