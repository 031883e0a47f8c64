use Rattle.std.proofs.Common.{◌≡◌, ◌*◌, ◌^◌, ◌<◌, take}
use Rattle.rows.specs.Packing.{num}
use Rattle.rows.proofs.reader.word.Given as goal

abbrev pub invariant-loop-byte : goal.invariant-loop-byte
invariant-loop-byte l = (l.acc < 2 ^ (8 * l.byte-index)) × (l.acc ≡ num (take l.byte-index l.byte-items))
