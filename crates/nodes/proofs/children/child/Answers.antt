use Rattle.nodes.proofs.Naming.{first_in}
use Rattle.nodes.specs.Stands.{lacks}
use mathlib.Core.Path.{refl}
use Rattle.nodes.proofs.children.child.Goals as goal

pub returns-in-Some : goal.returns-in-Some
returns-in-Some c = λ t h. c.child_from.ensures t.inside (c.in-Some.ensures.0 t h)

pub returns-in-None : goal.returns-in-None
returns-in-None c = λ t h. lacks refl (first_in c.args.x.now (c.in-None.ensures.0 t h))
