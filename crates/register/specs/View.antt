-- What the header's counts can claim.
use Rattle.std.specs.Prelude.{ℕ}

-- R1: two counts of two bytes each are together below this
abbrev pub most_counted : ℕ
most_counted = 131072
