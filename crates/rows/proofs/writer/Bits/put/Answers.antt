use Prim.Native.Nat.{ℕ, ◌+◌, ◌-◌, ◌*◌, ◌/◌, ◌^◌, ◌≤◌, ◌<◌}
use mathlib.Core.Path.{◌≡◌, refl, ap, ◌∙◌}
use native.Mathlib.Nat.{mod-lt}
use lib.ListN.{length, take, length-set}
use lib.Seq.{take-set-le, drop-set-lt}
use lib.Pow.{pow_pos, shr_lt}
use native.Mathlib.Omega.{arith}
use Rattle.rows.specs.Packing.{num, packs}
use Rattle.rows.proofs.Steps.{one_shl, more, stored, flushed, shl_add, shl_add_lt, within}
use Rattle.rows.proofs.Writing.{later}
use Rattle.rows.proofs.writer.Bits.put.Goals as goal

pub overflow_add-acc : goal.overflow_add-acc
overflow_add-acc c =
    let a = c.args in
    let p = c.requires in
    let room : a.self.have + a.w ≤ 63 = omega (arith, a.self.few, p.w_bound) in
    omega (arith, within _ (a.self.have + a.w) 63 (shl_add_lt 64 a.self.acc a.v a.self.have a.w a.self.small p.w_bound.1 (omega arith)) room)

pub loop-have-init : goal.loop-have-init
loop-have-init c =
    let a = c.args in
    let p = c.requires in
    let room : a.self.have + a.w ≤ 63 = omega (arith, a.self.few, p.w_bound) in
    (refl, room, refl, omega arith, shl_add_lt 64 a.self.acc a.v a.self.have a.w a.self.small p.w_bound.1 (omega arith), refl, omega arith, refl, refl)

pub overflow_cast-out : goal.overflow_cast-out
overflow_cast-out c =
    let l = c.loop-have in
    let k : 8 + (l.have - 8) ≡ l.have = omega arith in
    record { fits = shr_lt 8 (l.have - 8) (rw k l.invariant.4) }

pub loop-have-preserved : goal.loop-have-preserved
loop-have-preserved c =
    let l = c.loop-have in
    let k : l.have - 8 < 64 = omega arith in
    let e : 8 + (l.have - 8) ≡ l.have = omega arith in
    let h : l.at < length l.out = omega arith in (
      simp length-set l.invariant.0,
      omega arith,
      omega arith,
      simp length-set (omega arith),
      rw (one_shl 64 (l.have - 8) k) (mod-lt l.acc (pow_pos (l.have - 8))),
      rw (one_shl 64 (l.have - 8) k, stored l.out l.at (l.acc / 2 ^ (l.have - 8)) h) (flushed (num (take l.at l.out)) l.acc (l.have - 8) l.have e ∙ l.invariant.5),
      omega arith,
      take-set-le _ l.out l.at _ l.invariant.6 ∙ l.invariant.7,
      drop-set-lt (l.at + 1) l.out l.at _ (omega arith) ∙ later l.at (l.at + 1) _ l.out (omega arith) l.invariant.8,
    )

pub returns : goal.returns
unfolding packs
returns c =
    let l = c.loop-have in
    let a = c.args in
    let p = c.requires in
    let room : a.self.have + a.w ≤ 64 = omega (arith, a.self.few, p.w_bound) in record {
      wrote = record {
        tidy = record { few = c.loop-have-test.false; small = l.invariant.4 };
        bits = omega arith;
        holds = l.invariant.5 ∙ ap (λ (z : ℕ). num (take a.self.at a.out.now) * 2 ^ (a.self.have + a.w) + z) (shl_add 64 a.self.acc a.v a.self.have a.w a.self.small room)
            ∙ more (num (take a.self.at a.out.now)) a.self.acc a.v a.self.have a.w;
        same = l.invariant.0;
        before = l.invariant.7;
        behind = l.invariant.8;
      };
      result_value = omega arith;
    }
