use mathlib.Core.Path.{◌≡◌}
use lib.ListN.{drop}
use Rattle.markup.specs.Comments.{closed_by}
use Rattle.markup.proofs.Cursor.closed_by.Given as goal

abbrev pub invariant-loop-at : goal.invariant-loop-at
invariant-loop-at l = closed_by l.first l.second (drop l.fn.self.at l.s) ≡ closed_by l.first l.second (drop l.at l.s)
