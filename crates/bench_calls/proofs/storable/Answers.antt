use mathlib.Core.Path.{ap₂}
use mathlib.Core.Bool.{Bool, ◌&&◌}
use lib.Dec.{eqb}
use lib.ListN.{length}
use Rattle.bench_calls.proofs.storable.Goals as goal

pub returns : goal.returns
returns c =
    let a = c.args in
    ap₂ (λ (x y : Bool). x && (y && eqb (length a.kept.now) (length a.evs.now))) c.all_below.ensures c.all_below-2.ensures
