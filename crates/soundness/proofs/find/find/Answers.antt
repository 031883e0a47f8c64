use Rattle.std.proofs.Common.{◌≡◌, sym, ◌∙◌}
use Rattle.std.proofs.lemmas.Result.{err_from_is_err_and}
use Rattle.home_care.specs.Row.{row_bytes}
use Rattle.home_care.proofs.Laid.{row_width}
use Rattle.soundness.specs.declared.find.Missing.TheVariants.{Nowhere}
use Rattle.soundness.proofs.Deciding.{sound_told, cases_within}
use Rattle.soundness.proofs.FindAnswers.{unsound, nowhere, by_key}
use Rattle.soundness.proofs.find.find.Goals as goal

pub returns-then-not-sound : goal.returns-then-not-sound
returns-then-not-sound c =
    let x = c.args.texts.now in
    unsound c.args.reg.now x.region.now x.asl.now x.date.now x.id.now (sym c.sound.ensures ∙ c.if-not-sound.true)

pub returns-in_err-probe : goal.returns-in_err-probe
returns-in_err-probe c =
    let x = c.args.texts.now in
    let p = err_from_is_err_and c.from_residual.result c.from_residual.ensures.1 in
    let d = c.in_err-probe.ensures.ok_part in
    let a = rw d at c.in_err-probe.ensures.value in
    let v : c.in_err-probe.field-0.0 ≡ Nowhere = cc in
    rw (p.1, p.2, v) (nowhere c.args.reg.now x.region.now x.asl.now x.date.now x.id.now (sym c.sound.ensures ∙ c.if-not-sound.false) (rw d at c.probe_of.ensures))

pub find_key-requires : goal.find_key-requires
find_key-requires c =
    let s = sound_told c.args.reg.now (sym c.sound.ensures ∙ c.if-not-sound.false) in
    let k = rw c.in_ok-probe.ensures.ok_part at c.probe_of.ensures in
    (row_width, s.long, cases_within row_bytes c.args.reg.now s, k.1)

pub returns : goal.returns
returns c =
    let x = c.args.texts.now in
    let s = sound_told c.args.reg.now (sym c.sound.ensures ∙ c.if-not-sound.false) in
    let k = rw c.in_ok-probe.ensures.ok_part at c.probe_of.ensures in
    by_key c.args.reg.now x.region.now x.asl.now x.date.now x.id.now (sym c.sound.ensures ∙ c.if-not-sound.false) _ _ k.0 k.2 (c.find_key.ensures s.cases_up)
