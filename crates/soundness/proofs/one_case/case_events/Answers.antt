use Rattle.std.proofs.Common.{arith}
use Rattle.soundness.proofs.CaseWalk.{row_number, taken_at_lem, walk_start, walk_end, walk_past, walk_bad, walk_on}
use Rattle.soundness.proofs.one_case.case_events.Goals as goal

pub loop-k-init : goal.loop-k-init
loop-k-init c =
    walk_start c.args.w c.args.reg.now c.args.i c.args.j c.args.rows c.requires.0 _ (taken_at_lem c.args.w c.requires.0 c.args.reg.now c.row_at-case.result.now c.args.i _ (row_number _ _ _ _ c.row_at-case.ensures.0) c.row_at-case.ensures.1 c.get-taken.ensures.value)

pub returns-then-not-stands : goal.returns-then-not-stands
returns-then-not-stands c =
    walk_end c.args.w c.args.reg.now c.args.i c.args.j c.args.rows c.requires.0 c.row_at-case.result.now c.loop-k.k _ (row_number _ _ _ _ c.row_at-case.ensures.0) c.stands.ensures c.get-taken.result c.loop-k.b.least c.loop-k.b.prev c.loop-k.b.latest c.loop-k.invariant c.if-not-stands.true

pub returns-then-not-event_row_allowed-fits_after : goal.returns-then-not-event_row_allowed-fits_after
returns-then-not-event_row_allowed-fits_after c =
    walk_bad c.args.w c.args.reg.now c.args.i c.args.j c.args.rows c.requires.0 c.row_at-case.result.now c.loop-k.k _ (row_number _ _ _ _ c.row_at-case.ensures.0) c.stands.ensures c.get-taken.result c.loop-k.b.least c.loop-k.b.prev c.loop-k.b.latest c.loop-k.invariant c.row_at.result.now _ _ _ c.if-not-stands.false (row_number _ _ _ _ c.row_at.ensures.0) c.row_at.ensures.1 c.event_of-e.ensures.0 c.event_row_allowed.ensures c.fits_after.ensures c.if-not-event_row_allowed-fits_after.true

pub loop-k-preserved : goal.loop-k-preserved
loop-k-preserved c =
    walk_on c.args.w c.args.reg.now c.args.i c.args.j c.args.rows c.requires.0 c.row_at-case.result.now c.loop-k.k _ (row_number _ _ _ _ c.row_at-case.ensures.0) c.stands.ensures c.get-taken.result c.loop-k.b.least c.loop-k.b.prev c.loop-k.b.latest c.loop-k.invariant c.row_at.result.now _ _ _ c.if-not-stands.false (row_number _ _ _ _ c.row_at.ensures.0) c.row_at.ensures.1 c.event_of-e.ensures.0 c.event_row_allowed.ensures c.fits_after.ensures _ _ _ c.passed-b.ensures.0 c.passed-b.ensures.1 c.passed-b.ensures.2 c.if-not-event_row_allowed-fits_after.false

pub returns : goal.returns
returns c =
    walk_past c.args.w c.args.reg.now c.args.i c.args.j c.args.rows c.get-taken.result c.loop-k.b.least c.loop-k.b.prev c.loop-k.b.latest c.loop-k.k c.loop-k.invariant (omega arith) (omega arith)
