use Rattle.std.proofs.Common.{◌*◌, take}
use Rattle.lines.specs.Lines.{record_lines}
use Rattle.lines.specs.UpTo.{PutUpTo, most_record}
use Rattle.lines.proofs.record_lines.Given as goal

abbrev pub invariant-loop-i : goal.invariant-loop-i
invariant-loop-i l = PutUpTo (most_record * l.i) l.at (record_lines 1 (take l.i l.told)) l.initial.out l.out l.next
