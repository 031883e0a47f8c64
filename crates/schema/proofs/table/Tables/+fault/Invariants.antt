use Prim.Native.Nat.{ℕ, ◌+◌, ◌-◌, ◌<◌, ◌≤◌}
use mathlib.Core.Path.{◌≡◌}
use mathlib.Core.List.{List, []}
use lib.ListN.{length, drop}
use Rattle.markup.specs.NamesAndValues.Read.{read}
use Rattle.markup.specs.Elements.{Tree, element as element_of}
use Rattle.markup.specs.View.{part}
use Rattle.schema.specs.Shape.{fault_of}
use Rattle.schema.specs.CountedElements.{count_of}
use Rattle.schema.specs.Table.{name_at, node_at}
use Rattle.schema.proofs.Counts.{Counting}
use Rattle.schema.proofs.table.Tables.+fault.Given as goal

abbrev pub invariant-loop-next : goal.invariant-loop-next
invariant-loop-next l = (l.at < length l.s)
    × (l.at + l.total < l.here)
    × (l.spot.count ≤ l.here)
    × ((t : Tree) (m : List ℕ) → element_of l.levels (drop l.at l.s) ≡ read t m → t.named ≡ name_at l.self.table.now l.self.pool.now [] l.row
    → Counting l.self.table.now l.self.pool.now l.self.ranges.now (l.levels - 1) l.rows.first l.rows.n l.spot.item l.spot.count (length l.s - l.at) l.total (part l.s l.name.start l.name.end) m (fault_of (node_at l.self.table.now l.self.pool.now l.self.ranges.now l.levels l.row) t) (count_of (node_at l.self.table.now l.self.pool.now l.self.ranges.now l.levels l.row) t) (drop l.here l.s))

abbrev pub decreases-loop-next : goal.decreases-loop-next
decreases-loop-next l = length l.s - l.here

abbrev pub decreases-fault : goal.decreases-fault
decreases-fault l = l.levels
