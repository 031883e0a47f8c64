use Prim.Native.Nat.{◌-◌, ◌≤◌}
use lib.ListN.{drop, length}
use mathlib.Core.Path.{◌≡◌}
use Rattle.markup.specs.Elements.{Inside, kids}
use Rattle.markup.specs.View.{part}
use Rattle.nodes.proofs.Walking.{Look}
use Rattle.nodes.specs.Stands.{Holds}
use Rattle.tracks.proofs.Gathering.{gather, Ready}
use Rattle.tracks.proofs.events.events_from.Given as goal

abbrev pub invariant-loop-q : goal.invariant-loop-q
invariant-loop-q l = (l.tally.count ≤ l.at) × (l.inside.from ≤ l.at) × (length l.out ≡ length l.initial.out) × (length l.beside ≡ length l.initial.beside) × Ready l.inside.levels (part l.s l.inside.name l.inside.name_end) (drop l.at l.s) × ((i : Inside) → Holds l.inside.levels (part l.s l.inside.name l.inside.name_end) (drop l.inside.from l.s) i → Look (gather l.tally l.out l.beside) (gather l.initial.tally l.initial.out l.initial.beside (kids i)) l.inside.levels (part l.s l.inside.name l.inside.name_end) (drop l.at l.s))

abbrev pub decreases-loop-q : goal.decreases-loop-q
decreases-loop-q l = length l.s - l.at
