use Rattle.markup.specs.Bytes.{is_ws}
use Rattle.markup.proofs.AtBytes.{skip_at, run_onward}
use Rattle.markup.proofs.Cursor.skip_ws.Goals as goal

pub returns : goal.returns
returns c =
    let e = c.run_end-at.ensures.ends is_ws (λ b r k. k) in
    (skip_at _ _ _ e, run_onward _ _ _ _ e)
