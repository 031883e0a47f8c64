use mathlib.Core.Path.{refl, sym, ◌∙◌}
use lib.ListN.{length}
use Rattle.intake.specs.FileAnswers.{call_of}
use Rattle.intake.proofs.Submitting.{no_period, a_period, context_is, says_1, says_2, says_3, says_4, says_on}
use Rattle.intake.proofs.submit.taken.Goals as goal

-- Each test that was passed, told from the place after it.

pub returns-in_default-clause-says : goal.returns-in_default-clause-says
returns-in_default-clause-says c =
    let a = c.args in
    says_1 (call_of a.sub.now a.track a.year a.quarter a.answers.now) a.reg.now (no_period a.year a.quarter c.in_default.ensures.0) refl

pub returns-then-not-track-clause-says : goal.returns-then-not-track-clause-says
returns-then-not-track-clause-says c =
    let a = c.args in
    says_2 (call_of a.sub.now a.track a.year a.quarter a.answers.now) a.reg.now (a_period a.year a.quarter c.in-Some.ensures.0).0 c.if-not-track.true refl

pub returns-then-not-is_sound-clause-says : goal.returns-then-not-is_sound-clause-says
returns-then-not-is_sound-clause-says c =
    let a = c.args in
    says_3 (call_of a.sub.now a.track a.year a.quarter a.answers.now) a.reg.now (a_period a.year a.quarter c.in-Some.ensures.0).0 c.if-not-track.false (sym c.is_sound.ensures ∙ c.if-not-is_sound.true) refl

pub returns-then-sub-gt-LONGEST-clause-says : goal.returns-then-sub-gt-LONGEST-clause-says
returns-then-sub-gt-LONGEST-clause-says c =
    let a = c.args in
    says_4 (call_of a.sub.now a.track a.year a.quarter a.answers.now) a.reg.now (a_period a.year a.quarter c.in-Some.ensures.0).0 c.if-not-track.false (sym c.is_sound.ensures ∙ c.if-not-is_sound.false) c.if-sub-gt-LONGEST.true refl

pub by_markup-requires : goal.by_markup-requires
by_markup-requires c = (c.if-not-track.false, sym c.is_sound.ensures ∙ c.if-not-is_sound.false, c.room_of.ensures.0)

pub returns-clause-says : goal.returns-clause-says
returns-clause-says c =
    let a = c.args in
    let x = call_of a.sub.now a.track a.year a.quarter a.answers.now in
    let d = a_period a.year a.quarter c.in-Some.ensures.0 in
    says_on x a.reg.now d.0 c.if-not-track.false (sym c.is_sound.ensures ∙ c.if-not-is_sound.false) c.if-sub-gt-LONGEST.false (c.by_markup.ensures.says x (context_is x (length a.reg.now) d.1 d.2 c.room_of.ensures.0))
