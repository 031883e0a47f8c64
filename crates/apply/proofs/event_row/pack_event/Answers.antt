use Prim.Native.Nat.{◌+◌, ◌*◌, ◌^◌}
use mathlib.Core.Path.{◌∙◌}
use native.Mathlib.Omega.{arith}
use Rattle.rows.proofs.Bytes.{fit_of}
use Rattle.rows.specs.Writer.{count}
use Rattle.home_care.specs.Row.{event_bits, evaluation_bits, zero_bits}
use Rattle.apply.proofs.Packing.{row_packed}
use Rattle.apply.proofs.event_row.pack_event.Goals as goal

pub returns : goal.returns
returns c =
    let a = c.args in
    row_packed (λ x. (x * 2 ^ event_bits + a.e) * 2 ^ evaluation_bits + a.v) (count a.probe.now.key + event_bits + evaluation_bits) zero_bits a.probe.now.row.now a.out.now c.put_row.new.part c.set_event.new.out a.probe.now.key _ (omega (arith, a.probe.now.keyed.bits)) a.probe.now.keyed c.requires.0
    c.put_row.ensures c.set_event.ensures.0 (c.set_event.auto.out ∙ c.put_row.auto.part ∙ c.requires.0) (fit_of 8 c.set_event.new.out (λ i. (c.type_inv.out i).fits))
