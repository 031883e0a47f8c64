use mathlib.Core.Path.{refl}
use Rattle.judge.specs.View.{context_in}
use Rattle.intake.specs.Steps.{call_with}
use Rattle.intake.proofs.Filing.{no_more, taken_says}
use Rattle.intake.proofs.Submitting.{rooted, says_5, says_6, says_7, says_8, whole_file, says_0}
use Rattle.intake.proofs.submit.by_markup.Goals as goal

-- The file's root, once `document` has found it, is what `shape_of` and `take_file` are told.

pub returns-in_default-clause-says : goal.returns-in_default-clause-says
returns-in_default-clause-says c =
    λ x _. says_5 (call_with x c.args.sub.now c.args.track c.args.answers.now) c.args.reg.now c.in_default.ensures.0 refl

pub take_file-accepted-requires : goal.take_file-accepted-requires
take_file-accepted-requires c =
    let d = c.in-Some.ensures in
    let o = rooted c.args.sub.now c.in-Some.root.at d.0 d.2.1 in
    let k = c.in-Ok.ensures in
    ((o.tree, whole_file c.args.track o c.requires.0 (k.0 o.tree o.after o.reads).0 c.if-answers-records.false), c.requires.1, c.requires.2)

pub returns-in-Faulty-clause-says : goal.returns-in-Faulty-clause-says
returns-in-Faulty-clause-says c =
    let d = c.in-Some.ensures in
    let o = rooted c.args.sub.now c.in-Some.root.at d.0 d.2.1 in
    let k = rw c.in-Faulty.is at c.in-Err.ensures in
    λ x _. says_6 (call_with x c.args.sub.now c.args.track c.args.answers.now) c.args.reg.now o (k.0 o.tree o.after o.reads).0 c.place_of.ensures refl

pub returns-in-Crowded-clause-says : goal.returns-in-Crowded-clause-says
returns-in-Crowded-clause-says c =
    let d = c.in-Some.ensures in
    let o = rooted c.args.sub.now c.in-Some.root.at d.0 d.2.1 in
    let k = rw c.in-Crowded.is at c.in-Err.ensures in
    λ x _. says_7 (call_with x c.args.sub.now c.args.track c.args.answers.now) c.args.reg.now o (k.0 o.tree o.after o.reads).0 refl

pub returns-then-answers-records-clause-says : goal.returns-then-answers-records-clause-says
returns-then-answers-records-clause-says c =
    let d = c.in-Some.ensures in
    let o = rooted c.args.sub.now c.in-Some.root.at d.0 d.2.1 in
    let k = c.in-Ok.ensures in
    λ x _. says_8 (call_with x c.args.sub.now c.args.track c.args.answers.now) c.args.reg.now o c.requires.0 (k.0 o.tree o.after o.reads).0 c.if-answers-records.true refl

pub returns-else-answers-records-clause-says : goal.returns-else-answers-records-clause-says
returns-else-answers-records-clause-says c =
    let d = c.in-Some.ensures in
    let o = rooted c.args.sub.now c.in-Some.root.at d.0 d.2.1 in
    let h = (c.in-Ok.ensures.0 o.tree o.after o.reads).0 in
    let w = whole_file c.args.track o c.requires.0 h c.if-answers-records.false in
    λ x e. says_0 (call_with x c.args.sub.now c.args.track c.args.answers.now) c.args.reg.now o c.requires.0 h c.if-answers-records.false
    (taken_says c.args.track w (context_in c.args.l) (c.take_file-accepted.ensures o.tree w) x e)

pub returns-else-answers-records-clause-counts : goal.returns-else-answers-records-clause-counts
returns-else-answers-records-clause-counts c =
    let d = c.in-Some.ensures in
    let o = rooted c.args.sub.now c.in-Some.root.at d.0 d.2.1 in
    let h = (c.in-Ok.ensures.0 o.tree o.after o.reads).0 in
    let w = whole_file c.args.track o c.requires.0 h c.if-answers-records.false in
    no_more c.args.track w (context_in c.args.l) (c.take_file-accepted.ensures o.tree w)
