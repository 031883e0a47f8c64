-- What holds of each element of a list holds of those of a name.
use Prim.Native.Nat.{ℕ}
use mathlib.Core.Bool.{Bool, true, false, cond}
use mathlib.Core.List.{List, [], ◌∷◌}
use Rattle.laws.specs.Lists.{same}
use Rattle.markup.specs.Elements.{Tree}
use Rattle.reading.specs.Everywhere.{Every}
use Rattle.schema.specs.Shape.{named_in}

pub named_known : (p : Tree → Type 0) (x : List ℕ) (ts : List Tree) → Every p ts → Every p (named_in x ts)
unfolding named_in
named_known p x [] h = tt
named_known p x (t ∷ ts) h = go (same x t.named) (named_known p x ts h.1)
  where
    go : (b : Bool) → Every p (named_in x ts) → Every p (cond b (t ∷ named_in x ts) (named_in x ts))
    go true r = (h.0, r)
    go false r = r
