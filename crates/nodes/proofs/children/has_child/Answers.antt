use Rattle.nodes.proofs.Naming.{found_child}
use Rattle.nodes.proofs.children.has_child.Goals as goal

pub returns : goal.returns
returns c = λ t h. found_child c.args.x.now h (c.child.ensures t h)
