use Prim.Native.Nat.{◌-◌, ◌≤◌}
use lib.ListN.{drop, length}
use Rattle.markup.specs.Elements.{Inside, kids}
use Rattle.markup.specs.View.{part}
use Rattle.nodes.proofs.Walking.{Look}
use Rattle.nodes.specs.Lookup.{first_named}
use Rattle.nodes.specs.Stands.{Holds}
use Rattle.nodes.proofs.children.child_from.Given as goal

abbrev pub invariant-loop-q : goal.invariant-loop-q
invariant-loop-q l = (l.inside.from ≤ l.at) × ((i : Inside) → Holds l.inside.levels (part l.s l.inside.name l.inside.name_end) (drop l.inside.from l.s) i → Look (first_named l.x) (first_named l.x (kids i)) l.inside.levels (part l.s l.inside.name l.inside.name_end) (drop l.at l.s))

abbrev pub decreases-loop-q : goal.decreases-loop-q
decreases-loop-q l = length l.s - l.at
