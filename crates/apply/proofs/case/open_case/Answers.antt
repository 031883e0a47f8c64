use mathlib.Core.Path.{sym}
use lib.Seq.{length-take-le}
use native.Mathlib.Omega.{arith}
use Rattle.register.specs.Search.{probe_key}
use Rattle.register.proofs.Seams.{shifts_opened}
use Rattle.home_care.specs.Row.{row_bytes, key_bits}
use Rattle.home_care.specs.Fits.{case_with}
use Rattle.apply.specs.RowBytes.{case_bytes}
use Rattle.apply.proofs.CaseBytes.{case_length}
use Rattle.apply.proofs.case.open_case.Goals as goal

pub slice_bounds-pack_case-end-2 : goal.slice_bounds-pack_case-end-2
slice_bounds-pack_case-end-2 c = sym (length-take-le row_bytes c.shift_right.new.part (omega (arith, c.shift_right.auto.part, c.requires.0)))

pub pack_case-requires : goal.pack_case-requires
pack_case-requires c =
    (length-take-le row_bytes c.shift_right.new.part (omega (arith, c.shift_right.auto.part, c.requires.0)), c.requires.1)

pub returns : goal.returns
returns c =
    let a = c.args in
    shifts_opened row_bytes a.part.now c.shift_right.new.part c.pack_case.new.out
    (case_bytes (probe_key row_bytes key_bits a.probe.now.row.now) (case_with a.f.now.birth a.f.now.prevalente.now a.f.now.scales.now))
    c.requires.0 (case_length (probe_key row_bytes key_bits a.probe.now.row.now) (case_with a.f.now.birth a.f.now.prevalente.now a.f.now.scales.now))
    c.shift_right.ensures c.pack_case.ensures
