use Rattle.schema.specs.View.{nodes_from}
use Rattle.schema.specs.Shape.{enough as enough_in}
use mathlib.Core.List.{List}
use mathlib.Core.Path.{◌≡◌}
use Prim.Native.Nat.{ℕ}
use Rattle.schema.proofs.table.Tables.enough.Given as goal

abbrev pub invariant-loop-item : goal.invariant-loop-item
invariant-loop-item l = (p r : List ℕ) (d : ℕ) → enough_in (nodes_from l.self.table.now p r d l.rows.first l.rows.n l.item) l.count ≡ enough_in (nodes_from l.self.table.now p r d l.rows.first l.rows.n l.fn.from.item) l.fn.from.count
