use Rattle.register.specs.Search.{key_at, probe_key}
use Rattle.register.proofs.Halving.{between}
use Rattle.register.proofs.search.case_range.Goals as goal

pub returns : goal.returns
returns c =
    let g = c.args in
    between (key_at g.w g.kbits g.reg.now) (probe_key g.w g.kbits g.probe.now) g.lo g.hi c.place-a.result c.place-e.result c.place-a.ensures c.place-e.ensures
