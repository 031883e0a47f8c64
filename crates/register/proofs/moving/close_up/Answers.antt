use Rattle.register.specs.Moves.{closed_up}
use Rattle.register.proofs.Seams.{shifts_closed}
use Rattle.register.proofs.moving.close_up.Goals as goal

pub returns : goal.returns
unfolding closed_up
returns c = shifts_closed c.args.w c.args.part.now c.shift_left.new.part c.clear.new.part c.requires c.shift_left.ensures c.clear.ensures
