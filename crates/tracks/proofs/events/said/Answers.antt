use Prim.Native.Nat.{ℕ}
use Rattle.laws.specs.Lists.{same, bytes}
use Rattle.nodes.proofs.Naming.{found_child}
use mathlib.Core.List.{List}
use mathlib.Core.Path.{◌∙◌, ap}
use Rattle.tracks.proofs.events.said.Goals as goal

pub evaluated-kept-requires : goal.evaluated-kept-requires
evaluated-kept-requires c =
    let k = c.requires in
    (_, c.child-value.ensures _ k.1, k.2)

pub returns : goal.returns
returns c =
    λ t h.
    let v = found_child (bytes "Valutazione") h (c.child-value.ensures t h) in
    let p = c.evaluated-kept.ensures _ (c.child-value.ensures t h) in
    let z = c.same-zero.ensures ∙ ap (λ (l : List ℕ). same l (bytes "000")) (c.part.ensures ∙ p.0) in
    rw (c.kind_of.ensures, c.conferma_of-conferma.ensures, ← v, ← z, p.1)
