use Rattle.soundness.proofs.OnePass.{rest_start, case_not, run_bad, run_on, pass_done}
use native.Mathlib.Omega.{arith}
use Rattle.soundness.proofs.sound.rows_valid.Goals as goal

pub loop-i-init : goal.loop-i-init
loop-i-init c = (omega arith, omega arith, omega arith, rest_start c.args.w c.args.reg.now c.args.cases c.args.rows)

pub returns-then-not-case_fits : goal.returns-then-not-case_fits
returns-then-not-case_fits c =
    case_not c.args.w c.args.reg.now c.args.cases c.args.rows _ c.requires.2 c.requires.1 c.loop-i.i c.loop-i.j c.loop-i.invariant.3 c.loop-i-test.true _ c.case_fits.ensures (c.if-not-case_fits.true)

pub returns-in_default : goal.returns-in_default
returns-in_default c =
    run_bad c.args.w c.args.reg.now c.args.cases c.args.rows _ c.requires.2 c.requires.1 c.loop-i.i c.loop-i.j c.loop-i.invariant.3 c.loop-i-test.true _ c.case_events.ensures c.in_default.is

pub loop-i-preserved : goal.loop-i-preserved
loop-i-preserved c =
    let g = run_on c.args.w c.args.reg.now c.args.cases c.args.rows _ c.requires.2 c.requires.1 c.loop-i.i c.loop-i.j c.loop-i.invariant.3 c.loop-i-test.true _ _ _ c.case_fits.ensures (c.if-not-case_fits.false) c.case_events.ensures c.in-Some.is c.loop-i.invariant.2 in
    (omega arith, omega arith, g.1, g.2)

pub returns : goal.returns
returns c =
    pass_done c.args.w c.args.reg.now c.args.cases c.args.rows _ c.requires.2 c.requires.1 c.loop-i.i c.loop-i.j c.loop-i.invariant.3 c.loop-i-test.false c.loop-i.invariant.2
