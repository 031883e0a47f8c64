-- Answer 6 and its place (RULES.md, G8): the element at fault, which is read there.
use Prim.Native.Nat.{ℕ, ◌+◌, ◌-◌}
use mathlib.Core.Path.{◌≡◌, sym, ap, ◌∙◌}
use mathlib.Core.List.{List}
use native.Mathlib.Omega.{arith}
use lib.ListN.{length, get_or}
use lib.Seq.{get_or-drop}
use Rattle.markup.specs.Elements.{Tree}
use Rattle.reading.specs.Places.{place_in}
use Rattle.reading.specs.Everywhere.{ReadAt}
use Rattle.reading.proofs.Places.{place_reads}
use Rattle.schema.specs.AtFault.{FileFault}
use Rattle.schema.proofs.AtFault.{fault_at}
use Rattle.schemas.specs.Schemas.{schema_of}
use Rattle.intake.specs.FileAnswers.{Call, Submitted, submitted}
use Rattle.intake.specs.Demands.{Placed}
use Rattle.intake.proofs.Outcome.{Faulted, six_faulted}

module _ (x : Call) (reg : List ℕ) where
  abbrev call : Submitted
  call = submitted x reg

  -- the element that the shape tells of, by the bytes left at its `<`
  placed_at : (f : Faulted x reg call.number call.place) (c : Tree) → FileFault (schema_of x.track) f.tree call.number c →
      f.from ≡ c.from → ReadAt x.file c → Placed x call
  placed_at f c h e r =
      let place : call.place ≡ place_in x.file c = f.place ∙ ap (λ (n : ℕ). length x.file - n) e in
      let here : place_in x.file c + 0 ≡ call.place = omega (arith, place) in
      record {
        root = f.tree;
        after = f.left;
        markup = f.markup;
        at = c;
        fault = h;
        place = place;
        reads = r;
        within = omega (arith, place, r.some, r.inside);
        opens = sym (ap (λ (n : ℕ). get_or x.file n 0) here) ∙ sym (get_or-drop (place_in x.file c) x.file 0 0) ∙ r.opens;
      }

  -- with answer 6 the place is that of the element at fault
  pub fault_placed : call.answer ≡ 6 → Placed x call
  fault_placed z =
      let f = six_faulted x reg z in
      let d = place_reads x.file f.tree f.left f.markup in
      let w = fault_at (ReadAt x.file) (schema_of x.track) f.tree call.number f.from d f.shape in
      placed_at f w.0 w.1 w.2 w.3
