-- How two numbers stand to each other.
use Rattle.std.specs.Prelude.{ℕ, cond, ltb}
use Rattle.std.specs.declared.cmp.Ordering.{Ordering}
use Rattle.std.specs.declared.cmp.Ordering.TheVariants.{Less, Equal, Greater}

-- which of two numbers is the less
unfoldable pub order_of : ℕ → ℕ → Ordering
order_of m n = cond (ltb m n) Less (cond (ltb n m) Greater Equal)
