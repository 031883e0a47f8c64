use mathlib.Core.Path.{refl}
use native.Mathlib.Omega.{arith}
use Rattle.std.proofs.lemmas.Result.{err_from_is_err_and}
use Rattle.rows.proofs.Bytes.{fit_of}
use Rattle.judge.specs.View.{context_in}
use Rattle.intake.proofs.RecordRead.{of_shape}
use Rattle.intake.proofs.RecordTaken.{rows_within, never_0}
use Rattle.intake.proofs.EventsTaken.{events_held_lem, events_ways}
use Rattle.intake.proofs.track2.take_events.Goals as goal

-- What was read and judged, told once from the place after it.

pub heading-h-requires : goal.heading-h-requires
heading-h-requires c = (2, c.requires.0.0, c.requires.0.1)

pub events-read-requires : goal.events-read-requires
events-read-requires c = (c.requires.0.0, of_shape c.requires.0.1)

pub judge_events-requires : goal.judge_events-requires
judge_events-requires c =
    let w = rows_within c.args.reg.now c.requires.1 in
    let h = events_held_lem c.args.s.now c.args.top c.events-read.result _ c.events-read.new.out _ c.events-read.new.beside refl refl c.events-read.ensures c.requires.0.0 c.requires.0.1 in
    (w.0, w.1, omega (arith, h.no_more))

pub slice_bounds-evs-end : goal.slice_bounds-evs-end
slice_bounds-evs-end c = (events_held_lem c.args.s.now c.args.top c.events-read.result _ c.events-read.new.out _ c.events-read.new.beside refl refl c.events-read.ensures c.requires.0.0 c.requires.0.1).inside

pub returns-in_err-judge_events : goal.returns-in_err-judge_events
returns-in_err-judge_events c =
    let r = c.args.reg.now in
    let h = c.heading-h in
    let p = err_from_is_err_and c.from_residual.result c.from_residual.ensures.1 in
    λ a x. rw (p.1, p.2) ((events_ways c.args.s.now c.args.top c.events-read.result _ c.events-read.new.out _ c.events-read.new.beside refl refl c.events-read.ensures a x h.result.tipo h.result.taken h.result.probe (h.ensures.0 2 a x) r (fit_of 8 r (λ i. (c.slice_known-1.given i).fits)) c.requires.1 (context_in c.args.l) _ c.in_err-judge_events.ensures).discarded (never_0 _))

pub invariant_of-said : goal.invariant_of-said
invariant_of-said c =
    let h = events_held_lem c.args.s.now c.args.top c.events-read.result _ c.events-read.new.out _ c.events-read.new.beside refl refl c.events-read.ensures c.requires.0.0 c.requires.0.1 in
    record { events_fit = h.small; evaluations_fit = h.kept_small; beside = h.alike }

pub returns : goal.returns
returns c =
    let r = c.args.reg.now in
    let h = c.heading-h in
    let y = c.apply_events.ensures in
    λ a x. (events_ways c.args.s.now c.args.top c.events-read.result _ c.events-read.new.out _ c.events-read.new.beside refl refl c.events-read.ensures a x h.result.tipo h.result.taken h.result.probe (h.ensures.0 2 a x) r (fit_of 8 r (λ i. (c.slice_known-1.given i).fits)) c.requires.1 (context_in c.args.l) 0 c.in_ok-judge_events.ensures).accepted refl c.requires.2 _ y.0 y.1
