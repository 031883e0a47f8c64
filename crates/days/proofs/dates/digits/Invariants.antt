use Prim.Native.Nat.{◌^◌, ◌<◌}
use Rattle.days.proofs.Digits.{Left}
use Rattle.days.proofs.dates.digits.Given as goal

abbrev pub invariant-loop-b : goal.invariant-loop-b
invariant-loop-b l = (l.number < 10 ^ l.b-index) × Left l.s l.number l.b-index
