-- The first record of a file that is of the shape is of the shape.
use Prim.Native.Nat.{ℕ}
use mathlib.Core.Path.{◌≡◌, refl, sym, ap, ◌∙◌, subst}
use mathlib.Core.Bool.{Bool, true, false, cond, not, ◌||◌, false≢true}
use mathlib.Core.List.{List, [], ◌∷◌}
use native.Mathlib.Omega.{arith}
use lib.Dec.{eqb}
use lib.ListN.{drop}
use Rattle.laws.specs.Lists.{any, same, bytes}
use Rattle.markup.specs.NamesAndValues.{Read, then}
use Rattle.markup.specs.NamesAndValues.Read.{refused, read}
use Rattle.markup.specs.Elements.{Tree, element, depth, kids}
use Rattle.markup.specs.Document.{document, was_read, in_markup}
use Rattle.reading.specs.Many.{below_root}
use Rattle.reading.specs.Everywhere.{Every}
use Rattle.reading.proofs.Cut.{never}
use Rattle.schema.specs.Schema.{Schema}
use Rattle.schema.specs.Shape.{fault_of, named_in, records_of, Shape, fine, faulty, shape_of}
use Rattle.schema.specs.CountedElements.{good, over, held_by}
use Rattle.nodes.specs.Lookup.{first_named, child_of, has_child}
use Rattle.nodes.specs.Stands.{Stands, lacks, stands}
use Rattle.tracks.specs.declared.record.Top.{Top}
use Rattle.nodes.proofs.Taken.{Meets}
use Rattle.nodes.proofs.Naming.{found_child}
use Rattle.nodes.proofs.Legible.{Legible, document_legible}
use Rattle.nodes.proofs.Records.{shaped}
use Rattle.schemas.specs.Track1.{track1}
use Rattle.schemas.specs.Track2.{track2}
use Rattle.schemas.specs.Schemas.{schema_of}
use Rattle.home_care.specs.Record.{admission, events}
use Rattle.tracks.specs.TooMany.{crowded_in}
use Rattle.tracks.specs.Top.{TopOf, OfShape}
use Rattle.tracks.specs.View.{each_of}
use Rattle.tracks.specs.RecordFields.{head_of, admission_of, all_said, record_of}
use Rattle.tracks.specs.WellRead.{WellRead}
use Rattle.tracks.proofs.WellRead.{record_1, record_2}

abbrev assistenza : List ℕ
assistenza = bytes "Assistenza"

-- the root of a file in the markup
pub root_read : (s : List ℕ) (o : Read Tree) → then o (λ t _. read t []) ≡ document s → in_markup s ≡ true → (t : Tree) × (m : List ℕ) × (o ≡ read t m) × (document s ≡ read t [])
unfolding in_markup
root_read s refused e h = absurd (false≢true (ap was_read e ∙ h))
root_read s (read t m) e h = (t, m, refl, sym e)

-- the first of those of a name
first_of : (p : Tree → Type 0) (x : List ℕ) (ts : List Tree) → any (λ c. same x c.named) ts ≡ true → Every p (named_in x ts) → p (first_named x ts)
unfolding any named_in first_named
first_of p x [] h e = absurd (false≢true h)
first_of p x (t ∷ ts) h e = go (same x t.named) h e (first_of p x ts)
  where
    go : (b : Bool) → b || any (λ c. same x c.named) ts ≡ true → Every p (cond b (t ∷ named_in x ts) (named_in x ts))
        → (any (λ c. same x c.named) ts ≡ true → Every p (named_in x ts) → p (first_named x ts)) → p (cond b t (first_named x ts))
    go true h e k = e.0
    go false h e k = k h e

held_fine : (f : Shape) (k : ℕ) {n : ℕ} → good n ≡ held_by f k → f ≡ fine n
held_fine (fine m) k {n} e = go (eqb k 0) e
  where
    go : (b : Bool) → good n ≡ cond b (good m) (over k) → fine m ≡ fine n
    go true e = cc
    go false e = never cc
held_fine (faulty i z) k e = never cc

module _ (s : List ℕ) {t : Tree} (e : document s ≡ read t []) (h : has_child assistenza t ≡ true) where
  -- by a schema
  first_met : (k : Schema) {n : ℕ} → records_of k t ≡ named_in assistenza (kids t.inside) → shape_of k t ≡ fine n → Meets Legible k.each (child_of assistenza t)
  first_met k {n} r f =
      first_of (Meets Legible k.each) assistenza (kids t.inside) h (subst (Every (Meets Legible k.each)) r (shaped Legible k t n f (document_legible s t [] e)).records)

  first_clean : (track : ℕ) {n : ℕ} → good n ≡ held_by (shape_of (schema_of track) t) (crowded_in track t)
      → (fault_of (each_of track) (child_of assistenza t) ≡ 0) × WellRead (record_of track (child_of assistenza t))
  unfolding track1 track2 record_of
  first_clean track {n} g = go (eqb track 1) (held_fine _ _ g)
    where
      a : Tree
      a = child_of assistenza t

      go : (b : Bool) → shape_of (cond b track1 track2) t ≡ fine n
          → (fault_of (cond b track1.each track2.each) a ≡ 0) × WellRead (cond b (admission (head_of a) (admission_of a)) (events (head_of a) (all_said a)))
      go true f = let m = first_met track1 refl f in (m.clean, record_1 a m)
      go false f = let m = first_met track2 refl f in (m.clean, record_2 a m)

stood : {d : ℕ} {l : List ℕ} {t : Tree} → d ≡ below_root → Stands d l t → (m : List ℕ) × (element below_root l ≡ read t m)
stood z (lacks a b) = absurd (omega arith)
stood z (stands m e) = (m, rw z at e)

pub first_here : (track : ℕ) (s : List ℕ) {l : List ℕ} {at levels : ℕ} {top : Top} {t : Tree} {n : ℕ} → Stands depth l t
    → document s ≡ read t [] → good n ≡ held_by (shape_of (schema_of track) t) (crowded_in track t) → Stands levels (drop at s) (child_of assistenza t) → levels ≡ below_root
    → ((a : Tree) (k : List ℕ) → element below_root (drop at s) ≡ read a k → TopOf s at a top) → (a : Tree) × OfShape track s top a
first_here track s {at = at} {levels = levels} {t = t} e q g x z tops =
    let k = stood z x in
    let r : not (eqb levels 0) ≡ true = rw z in
    let h = sym (found_child assistenza e x) ∙ r in
    let w = first_clean s q h track g in
    (child_of assistenza t, record { at = at; tops = tops (child_of assistenza t) k.0 k.1; clean = w.0; well = w.1 })
