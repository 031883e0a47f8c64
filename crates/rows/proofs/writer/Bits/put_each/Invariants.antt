use Rattle.std.proofs.Common.{◌≡◌, length, take}
use Rattle.rows.specs.Packing.{each}
use Rattle.rows.specs.Writer.{Wrote}
use Rattle.rows.proofs.writer.Bits.put_each.Given as goal

abbrev pub invariant-loop-v : goal.invariant-loop-v
invariant-loop-v l = (length l.out ≡ length l.initial.out) × Wrote l.initial.out l.out l.initial.t l.t (each l.w (take l.v-index l.vs))
