use mathlib.Core.Path.{sym, ◌∙◌}
use Rattle.register.specs.Search.{probe_key}
use Rattle.home_care.specs.Row.{row_bytes, key_bits}
use Rattle.home_care.specs.Fits.{case_with}
use Rattle.home_care.specs.Record.{type_of}
use Rattle.apply.proofs.Records.{case_gone, case_out, case_in, case_applied}
use Rattle.apply.proofs.apply_case.Goals as goal

pub returns-then-cancels : goal.returns-then-cancels
returns-then-cancels c =
    let a = c.args in
    let k = probe_key row_bytes key_bits a.probe.now in
    let d = case_with a.f.now.birth a.f.now.prevalente.now a.f.now.scales.now in
    let b = c.remove_case.new.reg in (
      case_applied k d a.reg.now b a.tipo (case_out k d a.reg.now b (type_of a.tipo) (sym c.cancels.ensures ∙ c.if-cancels.true) (case_gone a.probe.now a.reg.now b c.remove_case.ensures)),
      c.remove_case.auto.reg,
    )

pub returns-else-cancels : goal.returns-else-cancels
returns-else-cancels c =
    let a = c.args in
    let k = probe_key row_bytes key_bits a.probe.now in
    let d = case_with a.f.now.birth a.f.now.prevalente.now a.f.now.scales.now in
    let b = c.put_case.new.reg in (
      case_applied k d a.reg.now b a.tipo (case_in k d a.reg.now b (type_of a.tipo) (sym c.cancels.ensures ∙ c.if-cancels.false) (rw c.key_in.ensures at c.put_case.ensures)),
      c.put_case.auto.reg,
    )
