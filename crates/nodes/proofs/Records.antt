-- A file that is of the shape: each of its records is without a fault, and they are as many as it says.
use Prim.Native.Nat.{ℕ}
use mathlib.Core.Path.{◌≡◌}
use mathlib.Core.Bool.{true}
use mathlib.Core.List.{List, [], ◌∷◌}
use lib.ListN.{length}
use Rattle.markup.specs.Elements.{Tree, alone, kids}
use Rattle.reading.specs.Everywhere.{Every, Deeply}
use Rattle.reading.proofs.Places.{kids_known}
use Rattle.schema.specs.Schema.{Node, Schema, particle_of}
use Rattle.schema.specs.Shape.{fault_of, outside, records_of, fine, shape_of}
use Rattle.schema.proofs.Named.{named_known}
use Rattle.schema.proofs.Right.{of_shape}
use Rattle.nodes.proofs.Taken.{Meets}

met : (p : Tree → Type 0) (n : Node) (rs : List Tree) → Every (λ r. fault_of n r ≡ 0) rs → Every (λ c. Deeply p (alone c)) rs → Every (Meets p n) rs
met p n [] f h = tt
met p n (r ∷ rs) f h = (record { clean = f.0; known = h.0 }, met p n rs f.1 h.1)

-- of the shape: nothing is wrong outside the records, nothing in them
pub record Shaped (p : Tree → Type 0) (s : Schema) (t : Tree) (k : ℕ) : Type 0 where
  pub outer : outside s t ≡ true
  pub records : Every (Meets p s.each) (records_of s t)
  pub count : k ≡ length (records_of s t)

pub shaped : (p : Tree → Type 0) (s : Schema) (t : Tree) (k : ℕ) → shape_of s t ≡ fine k → Deeply p (alone t) → Shaped p s t k
shaped p s t k e h =
    let w = of_shape s t k e in
    let known = named_known (λ c. Deeply p (alone c)) (particle_of s.each).named (kids t.inside) (kids_known p t.inside h.1) in
    record { outer = w.0; records = met p s.each (records_of s t) w.1 known; count = w.2 }
