use mathlib.Core.Path.{sym, ap, ◌∙◌}
use mathlib.Core.Bool.{Bool, ◌&&◌}
use lib.ListN.{length}
use Rattle.home_care.specs.Allowed.{room_to_evaluate}
use Rattle.home_care.proofs.RowFields.{row_bare, row_bad, row_evaluated}
use Rattle.home_care.proofs.row.RowBytes.event_row_allowed.Goals as goal

pub returns-then-tail-eq0 : goal.returns-then-tail-eq0
returns-then-tail-eq0 c =
    row_bare c.args.self.bytes.now c.args.self.wide _ _ _ c.get-tail.ensures.value c.requires c.event_allowed-good.ensures c.if-tail-eq0.true

pub returns-then-not-evaluates-self : goal.returns-then-not-evaluates-self
returns-then-not-evaluates-self c =
    row_bad c.args.self.bytes.now c.args.self.wide _ _ _ c.get-tail.ensures.value c.requires c.event_allowed-good.ensures c.if-tail-eq0.false (ap (λ (b : Bool). b && room_to_evaluate (length c.args.self.bytes.now)) (sym c.evaluates.ensures) ∙ c.if-not-evaluates-self.true)

pub returns : goal.returns
returns c =
    row_evaluated c.args.self.bytes.now c.args.self.wide _ _ _ c.get-tail.ensures.value c.requires c.event_allowed-good.ensures c.if-tail-eq0.false (ap (λ (b : Bool). b && room_to_evaluate (length c.args.self.bytes.now)) (sym c.evaluates.ensures) ∙ c.if-not-evaluates-self.false) _ c.evaluation_allowed.ensures
