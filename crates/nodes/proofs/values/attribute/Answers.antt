use Rattle.nodes.proofs.Entering.{head_after, not_headed, stands_headed, stands_zero}
use Rattle.nodes.proofs.Valuing.{valued_none}
use Rattle.nodes.proofs.values.attribute.Goals as goal

pub returns-then-n-eq0 : goal.returns-then-n-eq0
returns-then-n-eq0 c = (λ t h. rw (stands_zero c.if-n-eq0.true h) (valued_none c.args.s.now c.args.x.now), tt)

pub returns-in_err-name : goal.returns-in_err-name
returns-in_err-name c = rw c.from_residual.ensures (λ t h. not_headed (stands_headed c.if-n-eq0.false h) c.in_err-name.ensures.0, tt)

pub returns : goal.returns
returns c =
    (λ t h. let k = stands_headed c.if-n-eq0.false h in rw (← k.pairs) (c.value_from.ensures.0 k.attrs k.rest (head_after k c.in_ok-name.ensures.0)), c.value_from.ensures.1)
