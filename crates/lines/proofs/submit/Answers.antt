use mathlib.Core.Path.{refl}
use lib.ListN.{replicate}
use Rattle.lines.proofs.LineLaws.{told_lines, register_size}
use Rattle.lines.proofs.submit.Goals as goal

pub returns : goal.returns
returns c =
    let a = c.args in
    told_lines a.sub.now a.asked.track a.asked.year a.asked.quarter 14564 (replicate 512 0) c.siad_empty.new.reg register_size refl
    c.siad_empty.ensures.1 c.siad_submit-answer.ensures c.file_line-a.ensures c.record_lines-b.ensures c.standing_line.ensures
