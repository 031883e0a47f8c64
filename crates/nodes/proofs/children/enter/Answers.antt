use mathlib.Core.Path.{ap}
use Rattle.markup.specs.Elements.{Tree}
use Rattle.nodes.proofs.Entering.{stands_zero, stands_headed, not_headed, element_open, head_open, head_shut, head_bad}
use native.Mathlib.Omega.{arith}
use Rattle.nodes.proofs.children.enter.Goals as goal

pub returns-then-n-eq0 : goal.returns-then-n-eq0
returns-then-n-eq0 c = (λ t h. ap (λ (t : Tree). t.inside) (stands_zero c.if-n-eq0.true h), λ t m e. tt, tt)

pub returns-in_err-name : goal.returns-in_err-name
returns-in_err-name c = rw c.from_residual.ensures (λ t h. not_headed (stands_headed c.if-n-eq0.false h) c.in_err-name.ensures.0, λ t m e. tt, tt)

pub returns-in_err-done : goal.returns-in_err-done
returns-in_err-done c = rw c.from_residual-in_err-done.ensures (λ t h. head_bad _ c.in_ok-name.ensures.0 c.if-n-eq0.false h c.in_err-done.ensures.0, λ t m e. tt, tt)

pub returns-in-Shut : goal.returns-in-Shut
returns-in-Shut c =
    let y = rw c.in-Shut.is at c.in_ok-done.ensures in
    (λ t h. head_shut _ c.in_ok-name.ensures.0 c.if-n-eq0.false h y.0, λ t m e. tt, tt)

pub returns-in-Open : goal.returns-in-Open
returns-in-Open c =
    let y = rw c.in-Open.is at c.in_ok-done.ensures in (
      λ t h. head_open _ c.in_ok-name.ensures.0 c.if-n-eq0.false h y.0,
      λ t m e. (t.inside, element_open _ c.in_ok-name.ensures.0 _ t m e y.0),
      omega (arith, c.in_ok-name.ensures.1, y.1),
    )
