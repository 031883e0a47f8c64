use Prim.Native.Nat.{◌+◌}
use Rattle.register.proofs.Gaps.{gap_moved}
use Rattle.register.proofs.GapRows.{gap_took}
use native.Mathlib.Omega.{arith}
use Rattle.home_care.specs.Row.{row_bytes}
use Rattle.apply.proofs.cancel.widen.Goals as goal

pub returns : goal.returns
returns c =
    λ n a h g. gap_took row_bytes c.args.r c.args.j n a _ (omega arith) (gap_moved row_bytes (c.args.r + 1) c.args.i c.args.j n a c.args.reg.now c.shift_right.new.part (omega arith) g c.shift_right.ensures)
