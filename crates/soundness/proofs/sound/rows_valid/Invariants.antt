use Prim.Native.Nat.{◌≤◌}
use Rattle.soundness.proofs.OnePass.{Rest}
use Rattle.soundness.proofs.sound.rows_valid.Given as goal

abbrev pub invariant-loop-i : goal.invariant-loop-i
invariant-loop-i l = (l.i ≤ l.cases) × (l.cases ≤ l.j) × (l.j ≤ l.rows) × Rest l.w l.reg l.cases l.rows l.i l.j
