use mathlib.Core.Path.{◌∙◌, ap}
use native.Mathlib.Omega.{arith}
use Rattle.std.proofs.Common.{lit<}
use Rattle.home_care.specs.Record.{padded}
use Rattle.tracks.proofs.ShapedAdmissions.{case_in}
use Rattle.tracks.proofs.record.admission.Goals as goal

pub valued-value-requires : goal.valued-value-requires
valued-value-requires c =
    let x = c.requires.1 in
    (_, c.child.ensures _ x.tops.events, (case_in x).scales)

pub text_number-requires : goal.text_number-requires
text_number-requires c =
    let x = c.requires.1 in
    (_, c.walk.ensures.0 _ (c.child-person.ensures _ x.tops.patient) 0 (omega arith) (lit< tt), (case_in x).birth)

pub returns : goal.returns
returns c =
    λ a x.
    let w = x.tops in
    let p = c.walk.ensures.0 _ (c.child-person.ensures _ w.patient) in
    let home = c.walk-2.ensures.0 _ (p 1 (omega arith) (lit< tt)) in
    let v = c.valued-value.ensures _ (c.child.ensures _ w.events) in
    record {
      birth = c.text_number.ensures _ (p 0 (omega arith) (lit< tt));
      prevalente = c.filled-prevalente.ensures ∙ ap padded (c.part.ensures ∙ v.0);
      scales = v.1;
      region = c.text.ensures.0 _ (home 0 (omega arith) (lit< tt));
      asl = c.text-2.ensures.0 _ (home 1 (omega arith) (lit< tt));
      comune = c.text-3.ensures.0 _ (home 2 (omega arith) (lit< tt));
      stato = c.text-4.ensures.0 _ (home 3 (omega arith) (lit< tt));
    }
