use Prim.Native.Nat.{ℕ, ◌<◌}
use Prim.Native.Char.{code}
use mathlib.Core.Path.{◌≡◌, refl}
use mathlib.Core.Bool.{Bool, not, ◌&&◌}
use native.Mathlib.Omega.{arith}
use lib.Dec.{eqb, leb}
use Rattle.laws.specs.Lists.{any}
use Rattle.codes.specs.CodesAndCharacters.{in_ranges, id_chars}
use Rattle.codes.proofs.Bytes.{agree_below, same_test}
use Rattle.codes.proofs.characters.id_char.Goals as goal

-- as S16 words it
abbrev other : ℕ → Bool
other b =
    (leb 33 b && leb b 126)
    && (not (eqb b (code "&")) && (not (eqb b (code "<")) && (not (eqb b (code ">")) && (not (eqb b (code "\"")) && not (eqb b (code "'"))))))

other_is : (b : ℕ) → b < 256 → other b ≡ in_ranges id_chars b
unfolding any agree_below
other_is = same_test 256 other (in_ranges id_chars) refl

pub returns : goal.returns
returns c = other_is c.args.b (omega arith)
