use Prim.Native.Nat.{ℕ}
use mathlib.Core.Path.{ap, ap₂, ◌∙◌}
use mathlib.Core.Bool.{not, ◌&&◌}
use lib.Dec.{eqb}
use Rattle.home_care.specs.Row.{event_number_in_wide, evaluates}
use Rattle.home_care.specs.Fits.{as_event}
use Rattle.evaluation.proofs.in_force.keeps.Goals as goal

pub returns : goal.returns
returns c =
    ap₂ ◌&&◌
    (c.evaluates.ensures ∙ ap evaluates (c.event_of.ensures.0 ∙ ap (λ (w : ℕ). event_number_in_wide w (as_event c.args.row.now)) c.requires))
    (ap (λ (n : ℕ). not (eqb n 0)) c.evaluation_in.ensures.0)
