use native.Mathlib.Nat.{mul-le-mul_left}
use lib.ListN.{length-take, length-drop}
use Rattle.register.specs.Moves.{on_part}
use native.Mathlib.Omega.{arith}
use Rattle.register.proofs.moving.remove_rows.Goals as goal

pub close_rows-requires : goal.close_rows-requires
close_rows-requires c = simp (length-take, length-drop) (omega (arith, mul-le-mul_left c.args.w c.requires.0))

pub returns : goal.returns
unfolding on_part
returns c = rw c.close_rows.ensures
