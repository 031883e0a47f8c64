use mathlib.Core.Path.{refl}
use lib.ListN.{drop}
use Rattle.markup.proofs.AtNames.{ok_move_back}
use Rattle.reading.proofs.Skipping.{skip_none, skip_shut, skip_open}
use native.Mathlib.Omega.{arith}
use Rattle.reading.proofs.skips.skip.Goals as goal

pub returns-in_err-done : goal.returns-in_err-done
returns-in_err-done c =
    rw c.from_residual.ensures (λ d t m e. skip_none d (drop c.args.at c.args.s.now) t m e c.in_err-done.ensures.0 refl, tt)

pub returns-in-Shut : goal.returns-in-Shut
returns-in-Shut c =
    let x = rw c.in-Shut.is at c.in_ok-done.ensures in
    (λ d t m e. skip_shut d (drop c.args.at c.args.s.now) t m e x.0 refl, omega arith)

pub returns-in-Open : goal.returns-in-Open
returns-in-Open c =
    let x = rw c.in-Open.is at c.in_ok-done.ensures in (
      λ d t m e. skip_open d (drop c.args.at c.args.s.now) t m e x.0 refl c.past.ensures.0,
      ok_move_back c.args.s.now c.args.at c.in-Open.done.at c.past.result (omega arith) c.past.ensures.1,
    )
