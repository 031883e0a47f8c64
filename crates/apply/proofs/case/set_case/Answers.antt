use Prim.Native.Nat.{◌+◌, ◌*◌}
use Rattle.home_care.specs.Row.{row_bytes}
use Rattle.apply.proofs.Packing.{row_set, cut_length}
use Rattle.apply.proofs.case.set_case.Goals as goal

pub pack_case-requires : goal.pack_case-requires
pack_case-requires c = (cut_length c.args.i c.args.reg.now c.requires.0, c.requires.1)

pub returns : goal.returns
returns c = row_set (4 + row_bytes * c.args.i) c.args.reg.now _ c.pack_case.new.out c.pack_case.ensures
