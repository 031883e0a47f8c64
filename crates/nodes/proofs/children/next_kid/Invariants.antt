use Prim.Native.Nat.{◌-◌, ◌≤◌, ℕ}
use lib.ListN.{drop, length}
use mathlib.Core.List.{List}
use Rattle.markup.specs.Elements.{Inside, Tree, kids}
use Rattle.markup.specs.View.{part}
use Rattle.nodes.proofs.Walking.{Look}
use Rattle.nodes.specs.Stands.{Holds}
use Rattle.nodes.proofs.children.next_kid.Given as goal

abbrev pub invariant-loop-end : goal.invariant-loop-end
invariant-loop-end l = (l.from ≤ l.at) × ((d : ℕ) (i : Inside) → Holds d (part l.s l.inside.name l.inside.name_end) (drop l.from l.s) i → Look (λ (ts : List Tree). ts) (kids i) d (part l.s l.inside.name l.inside.name_end) (drop l.at l.s))

abbrev pub decreases-loop-end : goal.decreases-loop-end
decreases-loop-end l = length l.s - l.at
