use Prim.Native.Nat.{◌+◌, ◌*◌, ◌^◌}
use mathlib.Core.Path.{◌∙◌}
use native.Mathlib.Omega.{arith}
use Rattle.rows.proofs.Bytes.{fit_of}
use Rattle.rows.specs.Writer.{count}
use Rattle.home_care.specs.Row.{row_bytes, case_bits, case_zeros_wide, case_number}
use Rattle.home_care.specs.Fits.{case_with}
use Rattle.apply.proofs.Packing.{row_packed}
use Rattle.apply.proofs.case.pack_case.Goals as goal

pub returns : goal.returns
returns c =
    let a = c.args in
    row_packed (λ x. x * 2 ^ case_bits + case_number (case_with a.f.now.birth a.f.now.prevalente.now a.f.now.scales.now)) (count a.probe.now.key + case_bits) (case_zeros_wide row_bytes) a.probe.now.row.now a.out.now c.put_row.new.part c.set_case.new.out a.probe.now.key _ (omega (arith, a.probe.now.keyed.bits)) a.probe.now.keyed c.requires.0
    c.put_row.ensures c.set_case.ensures (c.set_case.auto.out ∙ c.put_row.auto.part ∙ c.requires.0) (fit_of 8 c.set_case.new.out (λ i. (c.type_inv.out i).fits))
