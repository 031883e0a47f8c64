use Rattle.std.proofs.Common.{refl, arith}
use lib.Seq.{take_all}
use Rattle.rows.specs.Packing.{each}
use Rattle.rows.specs.Writer.{Wrote}
use Rattle.rows.proofs.Bytes.{each_width, room_at, each_take, fit_at}
use Rattle.rows.proofs.Writing.{is_tidy, wrote_none, wrote_then}
use Rattle.rows.proofs.writer.Bits.put_each.Goals as goal

pub loop-v-init : goal.loop-v-init
loop-v-init c = (refl, wrote_none _ _ (is_tidy c.args.self))

pub put-t-requires : goal.put-t-requires
put-t-requires c =
    let l = c.loop-v in
    let a = c.args in
    let p = c.requires in
    let h = c.loop-v-test.true in
    record {
      w_bound = (omega arith, rw c.from.ensures (fit_at a.w a.vs.now l.v-index p.w_bound.1 h));
      w_bound_2 = omega (arith, room_at a.w a.vs.now l.v-index h, l.invariant.1.bits, p.vs_bound, each_width a.w a.vs.now);
    }

pub loop-v-preserved : goal.loop-v-preserved
loop-v-preserved c =
    let l = c.loop-v in
    let a = c.args in
    (omega arith, rw (each_take a.w a.vs.now l.v-index c.loop-v-test.true, ← c.from.ensures) (wrote_then l.invariant.1 c.put-t.ensures.wrote))

pub returns : goal.returns
returns c =
    let l = c.loop-v in
    let a = c.args in
    let w : Wrote a.out.now l.out a.self l.t (each a.w a.vs.now) = rw (take_all l.v-index a.vs.now c.loop-v-test.false) at l.invariant.1 in
    record { wrote = w; result_value = omega (arith, w.bits, each_width a.w a.vs.now) }
