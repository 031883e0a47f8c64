use mathlib.Core.Path.{refl}
use native.Mathlib.Omega.{arith}
use Rattle.home_care.proofs.EventRows.{own_found}
use Rattle.home_care.proofs.event_rows.place_event.Goals as goal

pub returns : goal.returns
returns c =
    let a = c.args in
    own_found a.reg.now a.e c.own_bits_of-bits.result _ c.own_bits_of-bits.ensures.0 (omega arith) refl a.lo a.hi c.place_by.result c.place_by.ensures
