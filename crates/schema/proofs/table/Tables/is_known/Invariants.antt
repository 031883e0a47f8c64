use Rattle.schema.proofs.Pairs.{names_from}
use Rattle.schema.specs.View.{takes}
use Rattle.schema.specs.Table.{names_at}
use Rattle.laws.specs.Lists.{any}
use mathlib.Core.List.{List}
use mathlib.Core.Path.{◌≡◌}
use Prim.Native.Nat.{ℕ}
use Rattle.schema.proofs.table.Tables.is_known.Given as goal

abbrev pub invariant-loop-k : goal.invariant-loop-k
invariant-loop-k l = (ranges : List ℕ) → any (λ x. takes l.free x l.key) (names_from l.self.table.now l.self.pool.now ranges l.rows.first l.rows.n l.k) ≡ any (λ x. takes l.free x l.key) (names_at l.self.table.now l.self.pool.now ranges l.rows.first l.rows.n)
