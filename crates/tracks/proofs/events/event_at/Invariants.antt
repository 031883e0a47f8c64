use Prim.Native.Nat.{ℕ}
use mathlib.Core.Path.{◌≡◌}
use mathlib.Core.List.{List}
use lib.ListN.{drop}
use Rattle.markup.specs.NamesAndValues.Read.{read}
use Rattle.markup.specs.Elements.{Tree, element}
use Rattle.tracks.proofs.Happening.{Left}
use Rattle.tracks.proofs.events.event_at.Given as goal

abbrev pub invariant-loop-w : goal.invariant-loop-w
invariant-loop-w l = (t : Tree) (m : List ℕ) → element l.levels (drop l.at l.s) ≡ read t m → Left l.w-items l.w-index t
