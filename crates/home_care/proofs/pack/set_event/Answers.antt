use mathlib.Core.Path.{◌∙◌}
use lib.ListN.{length}
use Rattle.rows.proofs.Bytes.{fit_of}
use Rattle.rows.proofs.Writing.{is_tidy}
use Rattle.home_care.proofs.Packed.{event_set, still_written}
use Rattle.home_care.proofs.pack.set_event.Goals as goal

pub returns : goal.returns
returns c =
    let a = c.args in
    let n = length a.out.now in
    let e = event_set a.out.now c.put.new.out c.put-2.new.out c.finish.new.out a.s c.put.result c.put-2.result a.event a.evaluation n c.put.ensures.wrote c.put-2.ensures.wrote (c.put-2.auto.out ∙ c.put.auto.out) c.finish.ensures in (
      e,
      still_written a.out.now c.finish.new.out a.s a.event a.evaluation n (is_tidy a.s) c.requires.0 c.requires.1 (fit_of 8 c.finish.new.out (λ i. (c.type_inv.out i).fits)) (c.finish.auto.out ∙ c.put-2.auto.out ∙ c.put.auto.out) c.requires.2 e,
    )
