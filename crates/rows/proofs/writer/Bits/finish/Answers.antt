use Rattle.std.proofs.Common.{ℕ, ◌-◌, ◌*◌, ◌^◌, length, take, ap, ◌∙◌, arith}
use Rattle.rows.specs.Packing.{num}
use Rattle.rows.proofs.Writing.{is_tidy, padded, zeros_from}
use Rattle.rows.proofs.writer.Bits.finish.Goals as goal

pub returns : goal.returns
returns c =
    let t = c.put-t.result in
    let room = c.put-t.new.out in
    padded (length c.args.out.now) c.args.out.now room _ c.args.self t (is_tidy c.args.self) c.requires c.put-t.ensures.wrote
    (zeros_from room c.fill.new.self t.at (omega (arith, c.put-t.ensures.wrote.bits)) (c.fill.ensures.after (λ y e. e))
    ∙ ap (λ (z : ℕ). num (take t.at room) * 2 ^ (8 * (z - t.at))) c.put-t.auto.out)
