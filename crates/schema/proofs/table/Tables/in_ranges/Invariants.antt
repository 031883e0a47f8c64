use Rattle.schema.proofs.Ranges.{ranges_from}
use Rattle.schema.specs.View.{Near}
use Rattle.schema.specs.Table.{ranges_at}
use Rattle.codes.specs.CodesAndCharacters.{in_ranges}
use mathlib.Core.List.{List}
use mathlib.Core.Path.{◌≡◌}
use Prim.Native.Nat.{ℕ}
use Rattle.schema.proofs.table.Tables.in_ranges.Given as goal

abbrev pub invariant-loop-k : goal.invariant-loop-k
invariant-loop-k l = (t p : List ℕ) (y : ℕ) → Near l.x y → in_ranges (ranges_from t p l.self.ranges.now l.rows.first l.rows.n l.k) y ≡ in_ranges (ranges_at t p l.self.ranges.now l.rows.first l.rows.n) y
