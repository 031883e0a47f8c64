use Prim.Native.Nat.{◌+◌, ◌*◌}
use Rattle.home_care.specs.Row.{row_bytes}
use Rattle.apply.proofs.Packing.{row_set}
use Rattle.apply.proofs.event_row.set_row.Goals as goal

pub returns : goal.returns
returns c = row_set (4 + row_bytes * c.args.i) c.args.reg.now _ c.pack_event.new.out c.pack_event.ensures
