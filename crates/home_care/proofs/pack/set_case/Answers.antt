use lib.ListN.{length}
use Rattle.home_care.specs.Fits.{case_with}
use Rattle.home_care.proofs.Packed.{case_set}
use Rattle.home_care.proofs.pack.set_case.Goals as goal

pub returns : goal.returns
returns c =
    case_set c.args.out.now c.put_case.new.out c.finish.new.out c.args.s c.put_case.result (case_with c.args.birth c.args.prevalente.now c.args.scales.now) (length c.args.out.now) c.requires.0
    c.put_case.ensures.wrote c.put_case.auto.out c.finish.ensures
