use Rattle.schema.specs.View.{nodes_from}
use Rattle.schema.specs.Shape.{seek as seek_in}
use mathlib.Core.List.{List}
use mathlib.Core.Path.{◌≡◌}
use Prim.Native.Nat.{ℕ, ◌≤◌}
use Rattle.schema.proofs.table.Tables.seek.Given as goal

abbrev pub invariant-loop-item : goal.invariant-loop-item
invariant-loop-item l = (l.count ≤ l.fn.from.count)
    × ((r : List ℕ) (d : ℕ) → seek_in l.x (nodes_from l.self.table.now l.self.pool.now r d l.rows.first l.rows.n l.item) l.count ≡ seek_in l.x (nodes_from l.self.table.now l.self.pool.now r d l.rows.first l.rows.n l.fn.from.item) l.fn.from.count)
