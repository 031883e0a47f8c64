use Rattle.tracks.proofs.Filling.{filled_up}
use Rattle.tracks.proofs.record.filled.Goals as goal

pub returns : goal.returns
returns c = rw c.copy_from_slice.ensures.after (filled_up c.args.x.now c.min-n.result c.min-n.ensures)
