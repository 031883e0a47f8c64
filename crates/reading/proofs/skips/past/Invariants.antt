use Prim.Native.Nat.{ℕ, ◌+◌, ◌-◌, ◌≤◌}
use mathlib.Core.Path.{◌≡◌}
use mathlib.Core.List.{List}
use lib.ListN.{length, drop}
use Rattle.markup.specs.Bytes.{is_text, after}
use Rattle.markup.specs.NamesAndValues.Read.{read}
use Rattle.markup.specs.Elements.{Inside, content, element}
use Rattle.reading.proofs.Skipping.{Pending}
use Rattle.reading.proofs.skips.past.Given as goal

abbrev pub invariant-loop-last : goal.invariant-loop-last
invariant-loop-last l = (l.from ≤ l.at) × (l.at ≤ length l.s) × (1 ≤ l.open) × (l.open ≤ l.at + 1)
    × ((d : ℕ) (n : List ℕ) (i : Inside) (m : List ℕ) → content (element d) n (drop l.from l.s) ≡ read i m → Pending l.open (after is_text (drop l.at l.s)) m)

abbrev pub decreases-loop-last : goal.decreases-loop-last
decreases-loop-last l = length l.s - l.at
