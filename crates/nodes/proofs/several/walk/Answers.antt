use mathlib.Core.Path.{ap}
use native.Mathlib.Omega.{arith}
use Prim.Native.Nat.{ℕ, ◌≤◌}
use Rattle.std.specs.Prelude.{Option, Some, None, IfSome, map}
use Rattle.markup.specs.Elements.{kids}
use Rattle.nodes.proofs.Seeking.{all_none}
use Rattle.nodes.proofs.several.walk.Goals as goal

onward : {a b : ℕ} (r : Option ℕ) → b ≤ a → IfSome r (λ p. a ≤ p) → IfSome r (λ p. b ≤ p)
onward (Some p) h k = omega arith
onward None h k = tt

pub returns-in-None : goal.returns-in-None
returns-in-None g c =
    let x = c.in-None.ensures in
    (λ t h. all_none c.args.s.now (map (λ y. y.now) c.args.names.now) g.row.N (ap kids (x.0 t h)), λ t m e. tt, tt)

pub returns-in-Some : goal.returns-in-Some
returns-in-Some g c =
    let x = c.in-Some.ensures in
    let r = c.several_from.ensures in
    (λ t h. let k = x.0 t h in (r.0 t.inside k.after k.is).0, λ t m e. let k = x.1 t m e in (r.0 k.0 m k.1).1, onward c.several_from.result.rest x.2 r.1)
