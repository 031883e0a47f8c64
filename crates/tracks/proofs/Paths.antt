-- What both tracks have, by paths from a record that is without a fault: its head, and a Valutazione's prevalente.
use Prim.Native.Nat.{ℕ, ◌<◌}
use mathlib.Core.Path.{◌≡◌, refl}
use mathlib.Core.Bool.{true}
use mathlib.Core.List.{List, [], ◌∷◌}
use Rattle.laws.specs.Lists.{same, bytes}
use Rattle.codes.specs.CodesAndCharacters.{alnums, id_chars, any_chars}
use Rattle.days.specs.DayNumbers.{day_count}
use Rattle.days.specs.Dates.{day_of}
use Rattle.markup.specs.Elements.{Tree}
use Rattle.schema.specs.Texts.{Texts, date, fits_text}
use Rattle.schema.specs.Schema.{Attr, Particle, Node, leaf, group, Nodes, none, ◌▸◌}
use Rattle.nodes.specs.Lookup.{attr_of, text_of}
use Rattle.nodes.proofs.Taken.{Meets}
use Rattle.nodes.proofs.Present.{node_of, only, owed, child_one, group_attrs}
use Rattle.nodes.proofs.Fields.{given, attr_named, leaf_text, leaf_attrs, attr_one}
use Rattle.nodes.proofs.Legible.{Legible}
use Rattle.schemas.specs.FieldTexts
use Rattle.schemas.specs.Parts
use Rattle.tracks.specs.RecordFields.{◌▹◌, head_of}
use Rattle.tracks.specs.WellRead.{WellHead, WellPrevalente}
use Rattle.tracks.proofs.Texts.{chars_fit, spelled, one_char, wide_fit, date_fit}

-- an element of a file that is without a fault by its node
abbrev pub Clean : Node → Tree → Type 0
Clean n t = Meets Legible n t

pub far : (c : Tree) → Legible c → 0 < c.from
far c h = h.placed

-- the text of a leaf, and an attribute's value
pub text_fits : {h : Particle} {x : Texts} {t : Tree} → Clean (leaf h x) t → fits_text x (text_of t) ≡ true
text_fits m = leaf_text Legible far m

pub value_fits : {h : Particle} {ns : Nodes} {t : Tree} (m : Clean (group h ns) t) (a : Attr) → attr_named a.named h.attrs ≡ given a → a.required ≡ true
    → fits_text a.texts (attr_of a.named t) ≡ true
value_fits {h} {ns} {t} m a e r = attr_one h.attrs t (group_attrs Legible far m) a.named a e r

pub day_read : {h : Particle} {ns : Nodes} {t : Tree} (m : Clean (group h ns) t) (n : List ℕ)
    → attr_named n h.attrs ≡ given (record { named = n; required = true; texts = date }) → day_of (attr_of n t) < day_count
day_read {h} {ns} {t} m n e = date_fit (attr_of n t) (value_fits m (record { named = n; required = true; texts = date }) e refl)

-- the head
module _ (a : Tree) (trasmissione : Clean Parts.trasmissione (a ▹ "Trasmissione")) (erogatore : Clean Parts.erogatore (a ▹ "Erogatore"))
    {h : Particle} (presa : Clean (group h (Parts.one "Id_Rec" FieldTexts.id_rec ▸ none)) (a ▹ "Eventi" ▹ "PresaInCarico"))
    (dated : attr_named (bytes "data") h.attrs ≡ given (Parts.required "data" date)) where
  region : Clean (Parts.one "CodiceRegione" FieldTexts.regione_erogazione) (a ▹ "Erogatore" ▹ "CodiceRegione")
  unfolding node_of owed same
  region = child_one Legible far erogatore (bytes "CodiceRegione") (Parts.one "CodiceRegione" FieldTexts.regione_erogazione) refl refl

  asl : Clean (Parts.one "CodiceASL" FieldTexts.cod_asl) (a ▹ "Erogatore" ▹ "CodiceASL")
  unfolding node_of owed same
  asl = child_one Legible far erogatore (bytes "CodiceASL") (Parts.one "CodiceASL" FieldTexts.cod_asl) refl refl

  rec : Clean (Parts.one "Id_Rec" FieldTexts.id_rec) (a ▹ "Eventi" ▹ "PresaInCarico" ▹ "Id_Rec")
  unfolding node_of owed same
  rec = child_one Legible far presa (bytes "Id_Rec") (Parts.one "Id_Rec" FieldTexts.id_rec) refl refl

  tipo : fits_text FieldTexts.tipo_trasmissione (attr_of (bytes "tipo") (a ▹ "Trasmissione")) ≡ true
  unfolding attr_named same
  tipo =
      attr_one (Parts.required "tipo" FieldTexts.tipo_trasmissione ∷ []) (a ▹ "Trasmissione") (leaf_attrs Legible far trasmissione) (bytes "tipo")
      (Parts.required "tipo" FieldTexts.tipo_trasmissione) refl refl

  pub head_read : WellHead (head_of a)
  head_read =
      record {
        tipo = one_char _ (attr_of (bytes "tipo") (a ▹ "Trasmissione")) tipo;
        key =
            record {
              region = (wide_fit 3 _ (text_of (a ▹ "Erogatore" ▹ "CodiceRegione")) (text_fits region)).1;
              asl = spelled alnums 3 (text_of (a ▹ "Erogatore" ▹ "CodiceASL")) (text_fits asl);
              taken = day_read presa (bytes "data") dated;
              id = spelled id_chars 88 (text_of (a ▹ "Eventi" ▹ "PresaInCarico" ▹ "Id_Rec")) (text_fits rec);
            };
      }

-- a Valutazione's prevalente: its first child is a Patologia
module _ {h : Particle} {ns : Nodes} {v : Tree} (value : Clean (group h (Parts.patologie ▸ ns)) v) (named : node_of (bytes "Patologia") (Parts.patologie ▸ ns) ≡ only Parts.patologie) where
  patologia : Clean Parts.patologie (v ▹ "Patologia")
  unfolding node_of owed same
  patologia = child_one Legible far value (bytes "Patologia") Parts.patologie named refl

  prevalente : Clean (Parts.one "Prevalente" FieldTexts.patologia_prevalente) (v ▹ "Patologia" ▹ "Prevalente")
  unfolding node_of owed same
  prevalente = child_one Legible far patologia (bytes "Prevalente") (Parts.one "Prevalente" FieldTexts.patologia_prevalente) refl refl

  pub prevalente_read : WellPrevalente (text_of (v ▹ "Patologia" ▹ "Prevalente"))
  prevalente_read =
      let c = chars_fit any_chars 3 5 (text_of (v ▹ "Patologia" ▹ "Prevalente")) (text_fits prevalente) in
      record { least = c.low; most = c.high; bytes = prevalente.known.0.prose }
