use Prim.Native.Nat.{◌-◌}
use mathlib.Core.Path.{◌≡◌}
use lib.ListN.{drop, length}
use Rattle.markup.specs.Elements.{Inside, kids}
use Rattle.markup.specs.View.{part}
use Rattle.reading.specs.Many.{below_root}
use Rattle.nodes.specs.Stands.{Holds}
use Rattle.judge.specs.View.{context_in}
use Rattle.intake.specs.Taking.{siad_driver}
use Rattle.intake.proofs.Along.{ends}
use Rattle.intake.proofs.Going.{Going}
use Rattle.intake.proofs.SiadDriver.{Kind}
use Rattle.intake.proofs.records.take_all.Given as goal

abbrev pub invariant-loop-q : goal.invariant-loop-q
invariant-loop-q l = (length l.reg ≡ length l.initial.reg) × (length l.answers ≡ length l.initial.answers) × ((i : Inside) → Holds below_root (part l.s l.inside.name l.inside.name_end) (drop l.inside.from l.s) i → Going (siad_driver l.track (context_in l.l)) (Kind (context_in l.l)) l.tally l.reg l.answers (ends (siad_driver l.track (context_in l.l)) l.initial.tally l.initial.reg l.initial.answers (kids i)) (part l.s l.inside.name l.inside.name_end) (drop l.at l.s))

abbrev pub decreases-loop-q : goal.decreases-loop-q
decreases-loop-q l = length l.s - l.at
