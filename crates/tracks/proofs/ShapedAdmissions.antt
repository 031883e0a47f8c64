-- In a record of Track 1 without a fault the birth year and the scales are of their types.
use Prim.Native.Nat.{ℕ}
use mathlib.Core.Path.{◌≡◌, refl}
use mathlib.Core.List.{List, []}
use lib.ListN.{drop}
use Rattle.laws.specs.Lists.{same, bytes}
use Rattle.reading.specs.Many.{below_root}
use Rattle.markup.specs.NamesAndValues.Read.{read}
use Rattle.markup.specs.Elements.{Tree, element}
use Rattle.schema.specs.Schema.{Node, none, ◌▸◌}
use Rattle.schema.specs.Shape.{fault_of}
use Rattle.nodes.specs.Lookup.{text_of}
use Rattle.nodes.proofs.Present.{node_of, owed}
use Rattle.nodes.proofs.Placed.{Placed}
use Rattle.schemas.specs.FieldTexts
use Rattle.schemas.specs.Parts
use Rattle.schemas.specs.Track1
use Rattle.tracks.specs.RecordFields.{◌▹◌}
use Rattle.tracks.specs.Top.{OfShape}
use Rattle.tracks.specs.declared.record.Top.{Top}
use Rattle.tracks.specs.Typed.{IsNumber, Scaled}
use Rattle.tracks.proofs.Texts.{year_number}
use Rattle.tracks.proofs.Scales.{graded_1, rated}
use Rattle.tracks.proofs.Shaped.{Clean, far, clean, group_in, leaf_in, events_1}

pub record CaseShaped (a : Tree) : Type 0 where
  pub birth : IsNumber (text_of (a ▹ "Assistito" ▹ "DatiAnagrafici" ▹ "AnnoNascita"))
  pub scales : Scaled (a ▹ "Eventi" ▹ "Valutazione")

abbrev persona : Node
persona =
    Parts.all_of "DatiAnagrafici" []
    (Parts.one "CUNI" FieldTexts.cuni ▸
    Parts.one "validitaCI" FieldTexts.validita_ci ▸
    Parts.one "tipologiaCI" FieldTexts.tipologia_ci ▸
    Parts.one "AnnoNascita" FieldTexts.anno ▸
    Parts.one "Genere" FieldTexts.genere ▸
    Parts.one "Cittadinanza" FieldTexts.cittadinanza ▸
    Parts.one "StatoCivile" FieldTexts.stato_civile ▸
    Track1.residenza ▸
    none)

module _ (a : Tree) (m : Clean Track1.assistenza a) where
  value : Clean Track1.valutazione (a ▹ "Eventi" ▹ "Valutazione")
  unfolding node_of owed same
  value = group_in (group_in m (bytes "Eventi") events_1 refl refl) (bytes "Valutazione") Track1.valutazione refl refl

  person : Clean persona (a ▹ "Assistito" ▹ "DatiAnagrafici")
  unfolding node_of owed same
  person = group_in (group_in m (bytes "Assistito") Track1.assistito refl refl) (bytes "DatiAnagrafici") persona refl refl

  birth : IsNumber (text_of (a ▹ "Assistito" ▹ "DatiAnagrafici" ▹ "AnnoNascita"))
  unfolding node_of owed same
  birth = year_number (text_of (a ▹ "Assistito" ▹ "DatiAnagrafici" ▹ "AnnoNascita")) (leaf_in person (bytes "AnnoNascita") _ FieldTexts.anno refl refl)

pub case_shaped : (a : Tree) (d : ℕ) (l m : List ℕ) → element d l ≡ read a m → fault_of (Track1.track1).each a ≡ 0 → CaseShaped a
unfolding Track1.track1
case_shaped a d l m e f = let c = clean Track1.assistenza d l a m e f in record { birth = birth a c; scales = (rated Placed far graded_1 (value a c)).scaled }

-- the same of a record whose children a walk has
pub case_in : {s : List ℕ} {top : Top} {a : Tree} → OfShape 1 s top a → CaseShaped a
case_in {s} {a = a} x = case_shaped a below_root (drop x.at s) x.tops.after x.tops.reads x.clean
