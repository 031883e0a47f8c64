use Rattle.std.proofs.Common.{rules}
use Rattle.register.specs.Gap.{field_in}
use Rattle.register.proofs.search.place_by.Goals as goal

pub returns : goal.returns
returns c = let a = c.args in c.halved.ensures (field_in a.w a.at a.wide a.reg.now) a.v (λ i told l h p. search rules)
