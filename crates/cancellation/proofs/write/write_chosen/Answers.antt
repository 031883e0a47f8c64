use Rattle.std.proofs.Common.{arith}
use Rattle.cancellation.specs.View.{chosen_by, texts_of}
use Rattle.cancellation.proofs.WriteWays.{Sized, measured, says_33, says_0}
use Rattle.cancellation.proofs.write.write_chosen.Goals as goal

pub returns-then-out-length : goal.returns-then-out-length
returns-then-out-length c =
    let es = chosen_by c.args.choice.now in
    let z : Sized (texts_of c.args.texts.now) = record { region = c.requires.0; asl = c.requires.1; date = c.requires.2; id = c.requires.3 } in
    let m = measured (texts_of c.args.texts.now) es c.args.out.now c.survey-s.ensures z in
    says_33 (texts_of c.args.texts.now) es c.args.out.now c.survey-s.ensures c.if-s.false c.if-s-eq0.false (omega (arith, m))

pub returns : goal.returns
returns c =
    let es = chosen_by c.args.choice.now in
    let z : Sized (texts_of c.args.texts.now) = record { region = c.requires.0; asl = c.requires.1; date = c.requires.2; id = c.requires.3 } in
    let m = measured (texts_of c.args.texts.now) es c.args.out.now c.survey-s.ensures z in
    says_0 (texts_of c.args.texts.now) es c.args.out.now c.survey-s.ensures c.if-s.false c.if-s-eq0.false (omega (arith, m)) c.put_file.ensures (omega (arith, m))
