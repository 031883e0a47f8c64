use native.Mathlib.Omega.{arith}
use Rattle.std.proofs.Common.{lit<}
use Rattle.tracks.proofs.record.valued.Goals as goal

pub scale-requires : goal.scale-requires
scale-requires c = let k = c.requires in (_, c.walk.ensures.0 k.0 k.1 1 (omega arith) (lit< tt), k.2.autonomy)

pub scale-requires-2 : goal.scale-requires-2
scale-requires-2 c = let k = c.requires in (_, c.walk.ensures.0 k.0 k.1 2 (omega arith) (lit< tt), k.2.mobility)

pub scale-requires-3 : goal.scale-requires-3
scale-requires-3 c = let k = c.requires in (_, c.child-cognitive.ensures _ (c.walk.ensures.0 k.0 k.1 3 (omega arith) (lit< tt)), k.2.cognitive)

pub scale-requires-4 : goal.scale-requires-4
scale-requires-4 c = let k = c.requires in (_, c.child-behaviour.ensures _ (c.walk.ensures.0 k.0 k.1 3 (omega arith) (lit< tt)), k.2.behaviour)

pub scale-requires-5 : goal.scale-requires-5
scale-requires-5 c = let k = c.requires in (_, c.walk.ensures.0 k.0 k.1 4 (omega arith) (lit< tt), k.2.support)

pub scale-requires-6 : goal.scale-requires-6
scale-requires-6 c = let k = c.requires in (_, c.walk.ensures.0 k.0 k.1 5 (omega arith) (lit< tt), k.2.infection)

pub returns : goal.returns
returns c =
    λ t h.
    let w = c.walk.ensures.0 t h in
    let d = w 3 (omega arith) (lit< tt) in (
      c.child_text.ensures.0 _ (w 0 (omega arith) (lit< tt)),
      rw (c.scale.ensures _ (w 1 (omega arith) (lit< tt)), c.scale-2.ensures _ (w 2 (omega arith) (lit< tt)), c.scale-3.ensures _ (c.child-cognitive.ensures _ d), c.scale-4.ensures _ (c.child-behaviour.ensures _ d), c.scale-5.ensures _ (w 4 (omega arith) (lit< tt)), c.scale-6.ensures _ (w 5 (omega arith) (lit< tt))),
    )
