-- The home-care register's rows hold their keys, and have the fields' room.
use Prim.Native.Nat.{ℕ, ◌/◌, ◌^◌, ◌≤◌}
use mathlib.Core.Path.{◌≡◌, ap}
use mathlib.Core.Bool.{Bool, true, false, cond}
use native.Mathlib.Omega.{arith}
use lib.Dec.{eqb}
use Rattle.codes.specs.CodesAndCharacters.{service}
use Rattle.register.specs.Stored.{Laid}
use Rattle.home_care.specs.Row.{row_bytes, old_bytes, code_bits, own_bits, spare_bits, kind_in, home_care, siad}
use Rattle.home_care.specs.Fits.{RowWidth}

pub laid_wide : (w : ℕ) → RowWidth w → Laid (home_care w)
laid_wide w h =
    record {
      some_bytes = omega arith;
      case_first = omega arith;
      in_row = omega arith;
      spare_few = λ q. at_most (eqb (kind_in q) service);
      told = λ p q e. ap spare_bits (same_kind p q (eqb (kind_in p) service) e);
    }
  where
    at_most : (b : Bool) → cond b 0 code_bits ≤ own_bits
    at_most true = omega arith
    at_most false = omega arith

    -- the kind stands in front of the code
    same_kind : (p q : ℕ) (b : Bool) → q / 2 ^ cond b 0 code_bits ≡ p / 2 ^ cond b 0 code_bits → kind_in q ≡ kind_in p
    same_kind p q true e = omega arith
    same_kind p q false e = omega arith

pub row_width : RowWidth row_bytes
row_width = record { least = omega arith; most = omega arith }

-- so have those of before
pub old_width : RowWidth old_bytes
old_width = record { least = omega arith; most = omega arith }

pub laid_siad : Laid siad
laid_siad = laid_wide row_bytes row_width
