use Rattle.std.proofs.Common.{rules, ◌+◌}
use Rattle.register.specs.Search.{key_at, probe_key}
use Rattle.register.proofs.search.place.Goals as goal

pub returns : goal.returns
returns c =
    let a = c.args in
    c.halved.ensures (key_at a.w a.kbits a.reg.now) (probe_key a.w a.kbits a.probe.now + a.t) (λ i told l h p. search rules)
