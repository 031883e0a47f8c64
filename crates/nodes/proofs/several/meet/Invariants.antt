use Prim.Native.Nat.{ℕ, ◌<◌, ◌+◌}
use mathlib.Core.Path.{◌≡◌}
use mathlib.Core.List.{[]}
use lib.ListN.{length, get_or}
use Rattle.std.specs.Prelude.{map}
use Rattle.laws.specs.Lists.{same}
use Rattle.nodes.specs.Several.{node_at, meets}
use Rattle.nodes.proofs.several.meet.Given as goal

abbrev pub invariant-loop-i : goal.invariant-loop-i
invariant-loop-i l = record {
  past : (k : ℕ) → k < length l.found → k < l.i → node_at l.found k ≡ meets (same (get_or (map (λ y. y.now) l.names) k []) l.x) l.here (node_at l.initial.found k);
  ahead : (k : ℕ) → l.i < k + 1 → node_at l.found k ≡ node_at l.initial.found k;
}
