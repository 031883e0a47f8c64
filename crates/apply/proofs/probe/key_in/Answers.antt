use mathlib.Core.Path.{refl}
use Rattle.rows.proofs.Bytes.{fit_of}
use Rattle.apply.proofs.Packing.{key_held}
use Rattle.apply.proofs.probe.key_in.Goals as goal

pub invariant_of-result : goal.invariant_of-result
invariant_of-result c =
    record { keyed = key_held c.args.row.now _ refl refl (fit_of 8 c.args.row.now (λ i. (c.type_inv.row i).fits)) c.requires c.get.ensures }
