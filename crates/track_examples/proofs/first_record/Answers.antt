use Rattle.std.proofs.Common.{arith}
use Rattle.nodes.specs.Stands.{stands}
use Rattle.track_examples.proofs.FirstOfShape.{root_read, first_here}
use Rattle.track_examples.proofs.first_record.Goals as goal

pub returns : goal.returns
returns c =
    let d = c.in_ok-root.ensures in
    let e = root_read c.args.s.now _ d.0 d.2.1 in
    let r = stands e.1 e.2 in
    let g = (c.in-Ok.ensures.0 e.0 e.1 e.2).0 in
    first_here c.args.track c.args.s.now r e.3 g (c.child-one.ensures e.0 r) (omega (arith, c.if-one-ne11.false)) (λ a k q. (c.top_of.ensures.0 a k q).0)
