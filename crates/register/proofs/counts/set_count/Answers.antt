use Rattle.std.proofs.Common.{ap, ap₂, ◌∙◌, List, ℕ, ◌+◌, ◌++◌, take, drop, arith}
use borrow.Rule.Slice.PartMut.{Post-is}
use Rattle.register.proofs.Header.{last_two}
use Rattle.register.specs.Moves.{with_count}
use Rattle.register.proofs.counts.set_count.Goals as goal

pub returns : goal.returns
unfolding with_count
returns c =
    let a = c.args in
    ap₂ (λ (two past : List ℕ). take a.at a.reg.now ++ (two ++ past))
    (c.copy_from_slice.ensures.after ∙ ap (λ (bytes : List ℕ). take 2 (drop 6 bytes)) c.to_be_bytes.ensures ∙ last_two a.v)
    (Post-is a.at (a.at + 2) a.reg.now (omega arith))
