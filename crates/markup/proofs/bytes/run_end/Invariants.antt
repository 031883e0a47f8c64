use Rattle.std.proofs.Common.{◌≡◌, ℕ, Bool, ◌+◌, ◌-◌, ◌≤◌, length, drop}
use Rattle.markup.specs.Bytes.{IsTest, run_length}
use Rattle.markup.proofs.bytes.run_end.Given as goal

abbrev pub invariant-loop-at : goal.invariant-loop-at
invariant-loop-at g l = (l.from ≤ l.at) × ((p : ℕ → Bool) → IsTest (goal.P-post g l.passes) p → l.from + run_length p (drop l.from l.s) ≡ l.at + run_length p (drop l.at l.s))

abbrev pub decreases-loop-at : goal.decreases-loop-at
decreases-loop-at g l = length l.s - l.at
