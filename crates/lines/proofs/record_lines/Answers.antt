use Rattle.std.proofs.Common.{◌≤◌, ℕ, length, take, ap, refl, ◌∙◌, arith}
use Rattle.std.proofs.lemmas.List.{length-take, take_min}
use Rattle.std.proofs.Math.Seq.{take_all}
use Rattle.lines.specs.Lines.{answer_bytes}
use Rattle.lines.proofs.LineLaws.{lines_none, lines_next, lines_end}
use Rattle.lines.proofs.record_lines.Goals as goal

pub loop-i-init : goal.loop-i-init
loop-i-init c = lines_none c.args.at (take c.min.result c.args.answers.now) c.args.out.now

pub loop-i-preserved : goal.loop-i-preserved
loop-i-preserved c =
    let told = take c.min.result c.args.answers.now in
    let few : length told ≤ answer_bytes = omega (arith, length-take c.min.result c.args.answers.now) in
    lines_next told few c.loop-i.invariant c.loop-i-test.true refl (omega arith) c.record_line-next.ensures

pub returns : goal.returns
returns c =
    let answers = c.args.answers.now in
    let told = take c.min.result answers in
    let few : length told ≤ answer_bytes = omega (arith, length-take c.min.result answers) in
    let all = take_all c.loop-i.i told c.loop-i-test.false ∙ ap (λ (n : ℕ). take n answers) c.min.ensures ∙ take_min c.args.records answers in
    lines_end told few c.loop-i.invariant c.loop-i.auto.i-end all
