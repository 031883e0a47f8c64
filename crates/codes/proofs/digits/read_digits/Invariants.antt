use Prim.Native.Nat.{◌≤◌}
use mathlib.Core.Path.{◌≡◌}
use mathlib.Core.Bool.{◌&&◌}
use lib.ListN.{drop}
use Rattle.laws.specs.Decimal.{is_digit, decimal_after, decimal}
use Rattle.laws.specs.Lists.{all}
use Rattle.codes.specs.Capped.{up_to}
use Rattle.codes.proofs.digits.read_digits.Given as goal

-- the rest of the text, after the number so far, gives the same number up to the most asked for
abbrev pub invariant-loop-b : goal.invariant-loop-b
invariant-loop-b l = (l.number ≤ l.most) × (up_to l.most (decimal_after l.number (drop l.b-index l.s)) ≡ up_to l.most (decimal l.s)) × (all is_digit l.s ≡ (l.good && all is_digit (drop l.b-index l.s)))
