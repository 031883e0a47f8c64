use mathlib.Core.Path.{sym, ◌∙◌}
use Rattle.cancellation.proofs.EventsPut.{none_put, one_put, one_left, share_full, share_done}
use Rattle.cancellation.proofs.records.put_events.Goals as goal
use Rattle.cancellation.proofs.records.put_events.Goals.{then-dated_in, else-dated_in}

-- The first n of the chosen events were put, and the others are in the rows that are left.

pub loop-row-init : goal.loop-row-init
loop-row-init c = none_put c.args.choice.now.rows_in.order

pub shape_of-out-then-n-eq-MOST_EVENTS : goal.shape_of-out-then-n-eq-MOST_EVENTS
shape_of-out-then-n-eq-MOST_EVENTS c = c.loop-row.invariant.put.long

pub returns-then-n-eq-MOST_EVENTS : goal.returns-then-n-eq-MOST_EVENTS
returns-then-n-eq-MOST_EVENTS c = share_full c.loop-row.invariant c.if-n-eq-MOST_EVENTS.true

pub loop-row-preserved : goal.loop-row-preserved
loop-row-preserved c =
    let l = c.loop-row in
    let e = c.event_at-e in
    let d = sym c.dated_in.ensures in
    elim c.if-dated_in.branch [
      | then-dated_in w ↦
          rw (w.out-is, w.next-is, w.n-is) (one_put l.invariant c.loop-row-test.true c.if-n-eq-MOST_EVENTS.false e.ensures.0 (d ∙ w.if-dated_in.true) w.put_event-next.ensures)
      | else-dated_in w ↦ rw (w.out-is, w.next-is, w.n-is) (one_left l.invariant c.loop-row-test.true e.ensures.0 (d ∙ w.if-dated_in.false))
    ]

pub shape_of-out : goal.shape_of-out
shape_of-out c = c.loop-row.invariant.put.long

pub returns : goal.returns
returns c = share_done c.loop-row.invariant c.loop-row-test.false
