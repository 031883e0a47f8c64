use Rattle.schema.proofs.Pairs.{attrs_from}
use Rattle.schema.specs.Table.{attrs_at}
use Rattle.schema.specs.Shape.{attr_fits}
use Rattle.markup.specs.Tags.{Attributes, attributes}
use Rattle.markup.specs.NamesAndValues.Read.{read}
use Rattle.laws.specs.Lists.{all}
use lib.ListN.{drop}
use mathlib.Core.List.{List}
use mathlib.Core.Path.{◌≡◌}
use Prim.Native.Nat.{ℕ}
use Rattle.schema.proofs.table.Tables.all_attrs.Given as goal

abbrev pub invariant-loop-k : goal.invariant-loop-k
invariant-loop-k l = (a : Attributes) (m : List ℕ) → attributes (drop l.after l.s) ≡ read a m → all (attr_fits a.pairs) (attrs_from l.self.table.now l.self.pool.now l.self.ranges.now l.rows.first l.rows.n l.k) ≡ all (attr_fits a.pairs) (attrs_at l.self.table.now l.self.pool.now l.self.ranges.now l.rows.first l.rows.n)
