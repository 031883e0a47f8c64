use Rattle.std.proofs.Common.{◌≡◌, ℕ, List, ◌+◌, ◌-◌, ◌*◌, ◌^◌, length, take, drop, get_or, refl, ap, sym, ◌∙◌, arith}
use lib.Pow.{pow_pos}
use lib.Seq.{take_all}
use borrow.Rule.Slice.PartMut.{mid_len}
use Rattle.rows.specs.Packing.{num, packs}
use Rattle.rows.proofs.Bytes.{num-take, num_mid, fit_of, fit_at, fit_take, fit_drop}
use Rattle.rows.proofs.Steps.{more_lt, within}
use Rattle.rows.proofs.reader.word.Goals as goal

pub loop-byte-init : goal.loop-byte-init
unfolding packs
loop-byte-init c = (pow_pos 0, refl)

pub overflow_mul-acc : goal.overflow_mul-acc
overflow_mul-acc c =
    let long = mid_len c.args.first c.args.end c.args.row.now c.requires.2 in
    omega (arith, within c.loop-byte.acc (8 * c.loop-byte.byte-index) 56 c.loop-byte.invariant.0 (omega arith))

pub loop-byte-preserved : goal.loop-byte-preserved
loop-byte-preserved c =
    let a = c.args in
    let l = c.loop-byte in
    let xs : List ℕ = take (a.end - a.first) (drop a.first a.row.now) in
    let small = fit_at 8 xs l.byte-index (fit_take 8 (a.end - a.first) _ (fit_drop 8 a.first a.row.now (fit_of 8 a.row.now (λ i. (c.type_inv.row i).fits)))) c.loop-byte-test.true in
    let e : 8 * (l.byte-index + 1) ≡ 8 * l.byte-index + 8 = omega arith in
    rw c.from.ensures (
      rw e (more_lt l.acc (get_or xs l.byte-index 0) (8 * l.byte-index) 8 l.invariant.0 small),
      ap (λ (n : ℕ). n * 256 + get_or xs l.byte-index 0) l.invariant.1 ∙ sym (num-take xs l.byte-index c.loop-byte-test.true),
    )

pub returns : goal.returns
returns c =
    let a = c.args in
    let l = c.loop-byte in
    let xs : List ℕ = take (a.end - a.first) (drop a.first a.row.now) in
    let long : length (take (a.end - a.first) (drop a.first a.row.now)) ≡ a.end - a.first = mid_len a.first a.end a.row.now c.requires.2 in
    let e : l.byte-index ≡ a.end - a.first = omega arith in
    let whole : l.acc ≡ num xs = l.invariant.1 ∙ ap num (take_all l.byte-index xs c.loop-byte-test.false) in
    (rw e at l.invariant.0, num_mid a.row.now a.first a.end c.requires.0 c.requires.2 ∙ ap (λ (n : ℕ). num (take a.first a.row.now) * 2 ^ (8 * (a.end - a.first)) + n) (sym whole))
