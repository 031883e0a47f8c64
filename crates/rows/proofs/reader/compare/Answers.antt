use Rattle.std.proofs.Common.{sym, ap₂, ◌∙◌}
use Rattle.rows.specs.Ordering.{order_of}
use Rattle.rows.proofs.Bytes.{fit_of}
use Rattle.rows.proofs.Comparing.{by_bytes, decided_then}
use Rattle.rows.proofs.reader.compare.Goals as goal

pub returns-in-Equal : goal.returns-in-Equal
returns-in-Equal c =
    let a = c.args.a.now in
    let b = c.args.b.now in
    c.order_of.ensures ∙ ap₂ order_of c.get.ensures.value c.get-in-Equal.ensures.value
    ∙ sym (by_bytes a b c.args.k (fit_of 8 a (λ i. (c.type_inv.a i).fits)) (fit_of 8 b (λ i. (c.type_inv.b i).fits)) c.requires.0 c.requires.1 _ _ c.cmp.ensures c.in-Equal.is)

pub returns-in_default : goal.returns-in_default
returns-in_default c =
    let a = c.args.a.now in
    let b = c.args.b.now in
    let d = by_bytes a b c.args.k (fit_of 8 a (λ i. (c.type_inv.a i).fits)) (fit_of 8 b (λ i. (c.type_inv.b i).fits)) c.requires.0 c.requires.1 _ _ c.cmp.ensures (λ i. c.cmp.result) in
    sym (d ∙ decided_then c.cmp.result _ c.in_default.not-Equal)
