use Rattle.std.proofs.Common.{◌≡◌, ℕ, Bool, ◌≤◌, ◌<◌, ◌-◌}
use Rattle.std.specs.Prelude.{ltb}
use Rattle.register.proofs.Halving.{Bracket}
use Rattle.register.proofs.search.halved.Given as goal

abbrev pub invariant-loop-a : goal.invariant-loop-a
invariant-loop-a g l =
    (l.lo ≤ l.a) × (l.e ≤ l.hi)
    × ((f : ℕ → ℕ) (v : ℕ) → ((i : ℕ) (told : Bool) → l.lo ≤ i → i < l.hi → goal.F-post g l.below i told → told ≡ ltb (f i) v) → Bracket f v l.lo l.hi l.a l.e)

abbrev pub decreases-loop-a : goal.decreases-loop-a
decreases-loop-a g l = l.e - l.a
