use lib.ListN.{length}
use mathlib.Core.Path.{◌∙◌, ap, refl}
use native.Mathlib.Omega.{arith}
use Rattle.markup.specs.Elements.{kids}
use Rattle.nodes.proofs.Walking.{look_gone, look_past, look_start, look_stuck}
use Rattle.tracks.proofs.Gathering.{gather, gather_all, gather_end, gather_on, kept-length, ready_here, ready_past}
use Rattle.tracks.proofs.events.events_from.Goals as goal

-- The invariant: the tally and the buffers, moved on by the children ahead, are those of all the children; and those ahead can be read.

pub loop-q-init : goal.loop-q-init
loop-q-init c =
    (omega arith, omega arith, refl, refl, (let k = c.requires in record { inside = k.0; holds = k.1; worded = k.2 }), λ i w. look_start (gather _ c.args.out.now c.args.beside.now) w)

pub returns-in_default : goal.returns-in_default
returns-in_default c =
    let k = c.in_default.ensures in
    λ i w. let v = c.loop-q.invariant.5 i w in gather_all c.args.out.now c.args.beside.now (kids i) (look_gone v (k.0 _ _ v.holds) ∙ gather_end _ _ _)

pub returns-in_default-skip : goal.returns-in_default-skip
returns-in_default-skip c =
    let k = c.in-Some.ensures in
    let y = c.in_default-skip.ensures in
    λ i w. let v = c.loop-q.invariant.5 i w in let a = k.0 _ _ v.holds in look_stuck v a (y.0 _ a.tree a.after a.reads)

pub event_at-happened-requires : goal.event_at-happened-requires
event_at-happened-requires c =
    let k = c.in-Some.ensures in
    let r = c.loop-q.invariant.4 in
    let a = k.0 _ _ r.holds in
    (a.tree, a.after, a.reads, ready_here r a)

pub loop-q-preserved : goal.loop-q-preserved
loop-q-preserved c =
    let k = c.in-Some.ensures in
    let y = c.in-Some-skip.ensures in (
      omega arith,
      omega arith,
      ap length c.keep-tally.ensures.1 ∙ (kept-length c.event_at-happened.result c.loop-q.tally.count c.loop-q.out).0 ∙ c.loop-q.invariant.2,
      ap length c.keep-tally.ensures.2 ∙ (kept-length c.event_at-happened.result c.loop-q.tally.count c.loop-q.beside).1 ∙ c.loop-q.invariant.3,
      (let r = c.loop-q.invariant.4 in ready_past r (k.0 _ _ r.holds) (y.0 _ (k.0 _ _ r.holds).tree (k.0 _ _ r.holds).after (k.0 _ _ r.holds).reads)),
      λ i w. let v = c.loop-q.invariant.5 i w in let a = k.0 _ _ v.holds in
          look_past v a (λ ts. gather_on _ _ _ a.tree ts (c.event_at-happened.ensures a.tree a.after a.reads) c.keep-tally.ensures.0 c.keep-tally.ensures.1 c.keep-tally.ensures.2) (y.0 _ a.tree a.after a.reads),
    )
