use Prim.Native.Nat.{ℕ}
use mathlib.Core.Path.{ap}
use mathlib.Core.List.{List}
use lib.ListN.{length, get_or}
use native.Mathlib.Omega.{arith}
use Rattle.tracks.proofs.fields.attr_byte.Goals as goal

pub bounds-attr_text-0 : goal.bounds-attr_text-0
bounds-attr_text-0 c = let k = c.requires in omega (arith, ap length (c.attr_text.ensures k.0 k.1), k.2)

pub returns : goal.returns
returns c = λ t h. ap (λ (l : List ℕ). get_or l 0 0) (c.attr_text.ensures t h)
