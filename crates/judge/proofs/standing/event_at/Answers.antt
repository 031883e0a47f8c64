use Prim.Native.Nat.{ℕ}
use mathlib.Core.Path.{sym, ap₂, ◌∙◌, subst}
use Rattle.register.specs.Layout.{event_rest}
use Rattle.register.specs.State.{split_by}
use Rattle.home_care.specs.Row.{row_bytes, home_care, event_number_in_wide}
use Rattle.home_care.specs.Fits.{RowWidth}
use Rattle.home_care.proofs.Laid.{row_width}
use Rattle.soundness.proofs.CaseWalk.{row_number}
use Rattle.judge.proofs.standing.event_at.Goals as goal

pub event_of-requires : goal.event_of-requires
event_of-requires c = subst RowWidth (sym c.row_at.ensures.1) row_width

pub returns : goal.returns
returns c = (
  c.event_of.ensures.0
      ∙ ap₂ (λ (v n : ℕ). event_number_in_wide v (split_by (home_care v).spare (event_rest (home_care v)) n)) c.row_at.ensures.1 (row_number row_bytes c.args.reg.now _ c.args.i c.row_at.ensures.0),
  c.event_of.ensures.1,
)
