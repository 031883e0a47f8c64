use Rattle.std.proofs.Common.{◌∙◌, sym, rules, arith}
use lib.Seq.{length-take-le}
use Rattle.widening.proofs.Laying.{row_put}
use Rattle.widening.proofs.convert.put_wide.Goals as goal

pub slice_bounds-copy_from_slice-end-2 : goal.slice_bounds-copy_from_slice-end-2
slice_bounds-copy_from_slice-end-2 c = sym (length-take-le 91 c.args.part.now (omega arith))

pub copy_from_slice-requires : goal.copy_from_slice-requires
copy_from_slice-requires c = length-take-le 91 c.args.part.now (omega arith) ∙ sym c.requires.1

pub returns : goal.returns
returns c =
    row_put c.args.part.now c.args.row.now _ c.fill.new.self c.requires.0 c.requires.1 (rw (c.copy_from_slice.ensures.after, c.requires.1)) (c.fill.ensures.after (λ y h. search rules))
