use Rattle.days.proofs.Months.{real}
use Rattle.days.proofs.Firsts.{day_found}
use mathlib.Core.Path.{ap}
use Prim.Native.Nat.{ℕ, ◌+◌, ◌-◌}
use native.Mathlib.Omega.{arith}
use Rattle.days.proofs.calendar.day_number.Goals as goal

pub overflow_add-result : goal.overflow_add-result
overflow_add-result c =
    let r = real c.args.y c.args.m c.args.d c.requires in
    record { fits = omega (arith, day_found c.args.y c.args.m c.args.d r) }

pub returns : goal.returns
returns c =
    let r = real c.args.y c.args.m c.args.d c.requires in
    (ap (λ (x : ℕ). x + (c.args.d - 1)) c.first_of.ensures.0, omega (arith, c.first_of.ensures.0, day_found c.args.y c.args.m c.args.d r))
