use Prim.Native.Nat.{ℕ, ◌-◌, ◌≤◌}
use mathlib.Core.Path.{◌≡◌}
use mathlib.Core.List.{List}
use lib.ListN.{drop, length}
use Rattle.std.specs.Prelude.{map}
use Rattle.markup.specs.NamesAndValues.Read.{read}
use Rattle.markup.specs.Elements.{Inside, content, element, kids}
use Rattle.markup.specs.View.{part}
use Rattle.nodes.proofs.Seeking.{Walk}
use Rattle.nodes.proofs.several.several_from.Given as goal

abbrev pub invariant-loop-q : goal.invariant-loop-q
invariant-loop-q g l = (l.inside.from ≤ l.at) × ((i : Inside) (m : List ℕ) → content (element l.inside.levels) (part l.s l.inside.name l.inside.name_end) (drop l.inside.from l.s) ≡ read i m → Walk l.s (map (λ y. y.now) l.names) (kids i) l.found l.inside.levels (part l.s l.inside.name l.inside.name_end) l.at m)

abbrev pub decreases-loop-q : goal.decreases-loop-q
decreases-loop-q g l = length l.s - l.at
