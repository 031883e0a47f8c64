-- The first child of a name, and whether there is one.
use Prim.Native.Nat.{ℕ, zero, suc, ◌<◌}
use mathlib.Core.Path.{◌≡◌, refl, sym, ap, ◌∙◌}
use mathlib.Core.Bool.{Bool, true, false, cond, not, ◌||◌}
use mathlib.Core.List.{List, [], ◌∷◌}
use native.Mathlib.Omega.{arith}
use lib.Dec.{eqb}
use borrow.Author.Tests.{ne_eqb}
use Rattle.laws.specs.Lists.{any, same}
use Rattle.markup.specs.NamesAndValues.Read.{read}
use Rattle.markup.specs.Elements.{Inside, Tree, element, kids}
use Rattle.markup.specs.Elements.Inside.{end}
use Rattle.reading.specs.Everywhere.{Every}
use Rattle.reading.proofs.Cut.{never}
use Rattle.reading.proofs.Places.{StandsIn, every_map, kids_stand}
use Rattle.reading.proofs.Shrink.{element_shrinks}
use Rattle.reading.proofs.Steps.{built, element_from}
use Rattle.nodes.specs.Lookup.{missing, first_named, child_of, has_child}
use Rattle.nodes.specs.Stands.{Stands, lacks, stands}

module _ (x : List ℕ) where
  pub first_hit : (t : Tree) (ts : List Tree) → true ≡ same x t.named → first_named x (t ∷ ts) ≡ t
  unfolding first_named
  first_hit t ts e = rw (← e)

  pub first_on : (t : Tree) (ts : List Tree) → false ≡ same x t.named → first_named x (t ∷ ts) ≡ first_named x ts
  unfolding first_named
  first_on t ts e = rw (← e)

  pub first_none : first_named x [] ≡ missing
  unfolding first_named
  first_none = refl

  pub first_in : {i : Inside} → i ≡ end → first_named x (kids i) ≡ missing
  unfolding first_named
  first_in e = rw e

-- an element that was read has its place, the missing one has none
pub first_any : (x : List ℕ) (ts : List Tree) → Every (λ c. 0 < c.from) ts → not (eqb (first_named x ts).from 0) ≡ any (λ c. same x c.named) ts
unfolding first_named any
first_any x [] h = refl
first_any x (t ∷ ts) h = go (same x t.named) (first_any x ts h.1)
  where
    go : (b : Bool) → not (eqb (first_named x ts).from 0) ≡ any (λ c. same x c.named) ts
        → not (eqb (cond b t (first_named x ts)).from 0) ≡ (b || any (λ c. same x c.named) ts)
    go true e = ap not (ne_eqb t.from 0 (λ z. let k = h.0 in omega arith))
    go false e = e

-- the children of an element that stands have places
pub kids_placed : {d : ℕ} {l : List ℕ} {t : Tree} → Stands d l t → Every (λ c. 0 < c.from) (kids t.inside)
unfolding element
kids_placed {t = t} (lacks a b) = rw b tt
kids_placed {d} {l} {t} (stands m e) = go d e
  where
    placed : (d : ℕ) (y : List ℕ) (c : Tree) → StandsIn d y c → 0 < c.from
    placed d y c k =
        let f = element_from d k.here c k.after k.reads in
        let s = element_shrinks d k.here k.reads in
        omega arith

    go : (d : ℕ) → element d l ≡ read t m → Every (λ c. 0 < c.from) (kids t.inside)
    go zero e = never cc
    go (suc d) e =
        let b = built d l t m e in
        let k = every_map (StandsIn d b.rest) (λ c. 0 < c.from) (placed d b.rest) (kids b.inside) (kids_stand d b.start b.rest b.inside m b.holds) in
        rw (ap (λ (t : Tree). t.inside) b.is) k

-- so there is a child of the name where the one that was found has levels
pub found_child : {d : ℕ} {l : List ℕ} {t : Tree} (x : List ℕ) {e : ℕ} {k : List ℕ} → Stands d l t → Stands e k (child_of x t) → not (eqb e 0) ≡ has_child x t
unfolding element
found_child {t = t} x {e} {k} h r = go r ∙ first_any x (kids t.inside) (kids_placed h)
  where
    go : Stands e k (child_of x t) → not (eqb e 0) ≡ not (eqb (child_of x t).from 0)
    go (lacks a b) = rw (a, b)
    go (stands m f) =
        let i = element_from e k (child_of x t) m f in
        let s = element_shrinks e k f in
        let z : e ≡ 0 → ⊥ = λ a. let g = rw a at f in never cc in
        ap not (ne_eqb e 0 z ∙ sym (ne_eqb (child_of x t).from 0 (λ a. omega arith)))
