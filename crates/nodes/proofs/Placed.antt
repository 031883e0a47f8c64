-- Every element of what was read has a place: the bytes left at its `<` are more than none.
use Prim.Native.Nat.{ℕ, zero, suc, ◌<◌}
use mathlib.Core.Path.{◌≡◌, sym, subst}
use mathlib.Core.List.{List}
use native.Mathlib.Omega.{arith}
use Rattle.markup.specs.NamesAndValues.Read.{read}
use Rattle.markup.specs.Elements.{Inside, Tree, element, alone, kids}
use Rattle.markup.specs.Elements.Inside.{end, says, note, elem}
use Rattle.reading.specs.Everywhere.{Every, Deeply}
use Rattle.reading.proofs.Cut.{never}
use Rattle.reading.proofs.Places.{StandsIn, every_map, kids_stand}
use Rattle.reading.proofs.Shrink.{element_shrinks}
use Rattle.reading.proofs.Steps.{Built, built, element_from}

abbrev pub Placed : Tree → Type 0
Placed c = 0 < c.from

pub element_placed : (d : ℕ) (l : List ℕ) (t : Tree) (m : List ℕ) → element d l ≡ read t m → Placed t
element_placed d l t m e =
    let f = element_from d l t m e in
    let s = element_shrinks d l e in
    omega arith

pub deeply_of : (p : Tree → Type 0) (i : Inside) → Every (λ c. Deeply p (alone c)) (kids i) → Deeply p i
deeply_of p end h = tt
deeply_of p (says t k) h = deeply_of p k h
deeply_of p (note k) h = deeply_of p k h
deeply_of p (elem z n ps i k) h = (h.0.0, h.0.1, deeply_of p k h.1)

pub all_placed : (d : ℕ) (l : List ℕ) (t : Tree) (m : List ℕ) → element d l ≡ read t m → Deeply Placed (alone t)
unfolding element
all_placed zero l t m e = never cc
all_placed (suc d) l t m e = go (built d l t m e) (all_placed d)
  where
    go : Built d l t m → ((l : List ℕ) (t : Tree) (m : List ℕ) → element d l ≡ read t m → Deeply Placed (alone t)) → Deeply Placed (alone t)
    go b h =
        let k : Every (λ c. Deeply Placed (alone c)) (kids b.inside) =
        every_map (StandsIn d b.rest) (λ c. Deeply Placed (alone c)) (λ c s. h s.here c s.after s.reads) (kids b.inside)
        (kids_stand d b.start b.rest b.inside m b.holds) in
        (element_placed (suc d) l t m e, subst (λ (x : Tree). Deeply Placed x.inside) (sym b.is) (deeply_of Placed b.inside k), tt)
