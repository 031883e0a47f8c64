use Prim.Native.Nat.{◌≤◌, ◌-◌}
use lib.ListN.{length, drop}
use Rattle.laws.proofs.Reach.{Reach}
use Rattle.markup.specs.NamesAndValues.Read.{refused}
use Rattle.markup.specs.Elements.{content_step, content, element as element_of}
use Rattle.markup.specs.View.{part, left}
use Rattle.markup.proofs.Cursor.+element.Given as goal

abbrev pub invariant-loop-done : goal.invariant-loop-done
invariant-loop-done l = (l.initial.here.at ≤ l.here.at)
    × Reach refused (content_step (element_of (l.levels - 1)) (part l.s l.start.name l.start.name_end)) left (left (content (element_of (l.levels - 1)) (part l.s l.start.name l.start.name_end) (drop l.initial.here.at l.s))) (drop l.here.at l.s)

abbrev pub decreases-loop-done : goal.decreases-loop-done
decreases-loop-done l = length l.s - l.here.at

abbrev pub decreases-element : goal.decreases-element
decreases-element l = l.levels
