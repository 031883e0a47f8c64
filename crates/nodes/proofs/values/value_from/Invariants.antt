use Prim.Native.Nat.{◌-◌}
use Rattle.nodes.proofs.Valuing.{OfPairs}
use Rattle.nodes.specs.Stands.{Valued}
use lib.ListN.{drop, length}
use Rattle.nodes.specs.declared.Span.{Span}
use Rattle.std.specs.Prelude.{Option}
use Rattle.nodes.proofs.values.value_from.Given as goal

abbrev pub invariant-loop-a : goal.invariant-loop-a
invariant-loop-a l = (r : Option Span) → OfPairs (λ ps. Valued l.s l.x ps r) (drop l.at l.s) → OfPairs (λ ps. Valued l.s l.x ps r) (drop l.initial.at l.s)

abbrev pub decreases-loop-a : goal.decreases-loop-a
decreases-loop-a l = length l.s - l.at
