use Prim.Native.Nat.{◌+◌, ◌*◌, ◌^◌, ◌≤◌, ◌<◌}
use mathlib.Core.Path.{◌≡◌}
use lib.ListN.{length, take, drop}
use Rattle.rows.specs.Packing.{num}
use Rattle.rows.proofs.writer.Bits.put.Given as goal

abbrev pub invariant-loop-have : goal.invariant-loop-have
invariant-loop-have l = (length l.out ≡ length l.initial.out) × (l.have ≤ 63) × (8 * l.at + l.have ≡ 8 * l.initial.at + l.initial.have) × (8 * l.at + l.have ≤ 8 * length l.out) × (l.acc < 2 ^ l.have)
    × (num (take l.at l.out) * 2 ^ l.have + l.acc ≡ num (take l.initial.at l.initial.out) * 2 ^ l.initial.have + l.initial.acc) × (l.initial.at ≤ l.at) × (take l.initial.at l.out ≡ take l.initial.at l.initial.out) × (drop l.at l.out ≡ drop l.at l.initial.out)

abbrev pub decreases-loop-have : goal.decreases-loop-have
decreases-loop-have l = l.have
