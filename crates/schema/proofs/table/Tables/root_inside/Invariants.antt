use Prim.Native.Nat.{ℕ, ◌-◌, ◌≤◌}
use mathlib.Core.Path.{◌≡◌}
use mathlib.Core.List.{List}
use lib.ListN.{length, drop}
use Rattle.std.specs.Prelude.{None, Ok}
use Rattle.markup.specs.NamesAndValues.Read.{read}
use Rattle.markup.specs.Elements.{Inside, content, element as element_of, kids}
use Rattle.markup.specs.View.{part}
use Rattle.reading.specs.Many.{below_root}
use Rattle.schema.specs.Shape.{fault_in}
use Rattle.schema.specs.Table.{schema_at}
use Rattle.schema.specs.View.{nodes_from, held_after, ok_seen}
use Rattle.schema.proofs.Group.{Walk}
use Rattle.schema.proofs.table.Tables.root_inside.Given as goal

abbrev pub invariant-loop-next : goal.invariant-loop-next
invariant-loop-next l = (l.spot.count ≤ l.at)
    × ok_seen l.at l.seen
    × ((i : Inside) (m : List ℕ) → content (element_of below_root) (part l.s l.name.start l.name.end) (drop l.start l.s) ≡ read i m
    → Walk below_root (part l.s l.name.start l.name.end) m (fault_in (schema_at l.self.table.now l.self.pool.now l.self.ranges.now below_root).nodes 0 l.from i) (held_after (schema_at l.self.table.now l.self.pool.now l.self.ranges.now below_root) (Ok (record { number = 0; over = None })) (kids i)) (nodes_from l.self.table.now l.self.pool.now l.self.ranges.now below_root l.rows.first l.rows.n l.spot.item) l.spot.count l.from (λ j. held_after (schema_at l.self.table.now l.self.pool.now l.self.ranges.now below_root) l.seen (kids j)) (drop l.at l.s))

abbrev pub decreases-loop-next : goal.decreases-loop-next
decreases-loop-next l = length l.s - l.at
