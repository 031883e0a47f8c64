use mathlib.Core.Path.{ap, ap₂, ◌∙◌}
use Rattle.rows.specs.Packing.{first_bits}
use Rattle.rows.specs.Ordering.{order_of}
use Rattle.register.proofs.Keys.{row_key, probe_key_lem}
use Rattle.register.proofs.search.compare_row.Goals as goal

pub returns : goal.returns
returns c =
    let a = c.args in
    c.compare.ensures ∙ ap₂ order_of (ap (first_bits a.kbits) c.row_at.ensures.0 ∙ row_key a.w a.kbits a.i a.reg.now c.requires.0) (probe_key_lem a.w a.kbits a.probe.now c.requires.1)
