use Rattle.reading.proofs.Skipping.{ok_got_back}
use native.Mathlib.Omega.{arith}
use Rattle.reading.proofs.skips.head.Goals as goal

pub returns-in_err-first : goal.returns-in_err-first
returns-in_err-first c = rw c.from_residual.ensures (rw (← c.in_err-first.ensures.0), tt)

pub returns : goal.returns
returns c =
    (rw (← c.in_ok-first.ensures.0) c.name.ensures.0, ok_got_back c.args.s.now c.args.at c.in_ok-first.first.at c.name.result (omega (arith, c.in_ok-first.ensures)) c.name.ensures.1)
