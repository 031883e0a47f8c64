use Rattle.rows.proofs.Bytes.{fit_of}
use Rattle.judge.specs.View.{context_in}
use Rattle.intake.proofs.Filing.{named_are, file_open, file_shut, file_bad, file_nameless}
use Rattle.intake.proofs.records.take_file.Goals as goal

pub returns-in_default : goal.returns-in_default
returns-in_default c =
    let reg = c.args.reg.now in
    λ t w. file_nameless c.args.track w (context_in c.args.l) (fit_of 8 reg (λ i. (c.type_inv.reg i).fits)) c.requires.1 c.in_default.ensures.0

pub returns-in_default-attributes : goal.returns-in_default-attributes
returns-in_default-attributes c =
    let reg = c.args.reg.now in
    λ t w. file_bad c.args.track w (context_in c.args.l) (fit_of 8 reg (λ i. (c.type_inv.reg i).fits)) c.requires.1 c.in-Some.ensures.0 c.in_default-attributes.ensures.0

pub returns-in-Shut : goal.returns-in-Shut
returns-in-Shut c =
    let reg = c.args.reg.now in
    let y = rw c.in-Shut.is at c.in-Some-attributes.ensures in
    λ t w. file_shut c.args.track w (context_in c.args.l) (fit_of 8 reg (λ i. (c.type_inv.reg i).fits)) c.requires.1 c.in-Some.ensures.0 y.0

pub take_all-requires : goal.take_all-requires
take_all-requires c =
    let y = rw c.in-Open.is at c.in-Some-attributes.ensures in
    ((c.requires.0.0.inside, file_open c.args.track c.requires.0.1 (context_in c.args.l) c.in-Some.ensures.0 y.0), c.requires.1, c.requires.2)

pub returns-in-Open : goal.returns-in-Open
returns-in-Open c =
    let y = rw c.in-Open.is at c.in-Some-attributes.ensures in
    λ t w. rw (named_are c.args.track t) (c.take_all.ensures t.inside (file_open c.args.track w (context_in c.args.l) c.in-Some.ensures.0 y.0).holds)
