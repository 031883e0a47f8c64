-- What a record without a fault has at the places that are read: each text is of its type.
use Prim.Native.Nat.{ℕ, ◌<◌}
use mathlib.Core.Path.{◌≡◌, refl}
use mathlib.Core.Bool.{Bool, true, false, cond}
use mathlib.Core.List.{List, [], ◌∷◌}
use native.Mathlib.Omega.{arith}
use lib.Dec.{eqb}
use lib.ListN.{length, drop}
use Rattle.laws.specs.Lists.{same, bytes}
use Rattle.codes.specs.CodesAndCharacters.{alnums, id_chars}
use Rattle.days.specs.Dates.{is_date}
use Rattle.markup.specs.NamesAndValues.Read.{read}
use Rattle.markup.specs.Elements.{Tree, element}
use Rattle.reading.specs.Many.{below_root}
use Rattle.schema.specs.Texts.{Texts, date, fits_text}
use Rattle.schema.specs.Schema.{Attr, Particle, Node, leaf, group, Nodes, none, ◌▸◌}
use Rattle.schema.specs.Shape.{fault_of}
use Rattle.nodes.specs.Lookup.{child_of, attr_of, text_of}
use Rattle.nodes.proofs.Taken.{Meets}
use Rattle.nodes.proofs.Present.{node_of, only, owed, child_one, group_attrs}
use Rattle.nodes.proofs.Fields.{given, attr_named, leaf_text, leaf_attrs, attr_one}
use Rattle.nodes.proofs.Placed.{Placed, all_placed}
use Rattle.schemas.specs.FieldTexts
use Rattle.schemas.specs.Parts
use Rattle.schemas.specs.Track1
use Rattle.schemas.specs.Track2
use Rattle.tracks.specs.RecordFields.{◌▹◌}
use Rattle.tracks.specs.Typed.{IsNumber}
use Rattle.tracks.specs.View.{each_of}
use Rattle.tracks.specs.Top.{OfShape}
use Rattle.tracks.specs.declared.record.Top.{Top}
use Rattle.tracks.proofs.Texts.{chars_fit, spelled, region_number, date_is}

-- an element that was read, without a fault by its node
abbrev pub Clean : Node → Tree → Type 0
Clean n t = Meets Placed n t

pub far : (c : Tree) → Placed c → 0 < c.from
far c h = h

pub clean : (n : Node) (d : ℕ) (l : List ℕ) (t : Tree) (m : List ℕ) → element d l ≡ read t m → fault_of n t ≡ 0 → Clean n t
clean n d l t m e f = record { clean = f; known = all_placed d l t m e }

module _ {h : Particle} {ns : Nodes} {t : Tree} (m : Clean (group h ns) t) where
  pub group_in : (x : List ℕ) (n : Node) → node_of x ns ≡ only n → owed x ns 0 ≡ true → Clean n (child_of x t)
  group_in x n e o = child_one Placed far m x n e o

  pub leaf_in : (x : List ℕ) (d : Particle) (y : Texts) → node_of x ns ≡ only (leaf d y) → owed x ns 0 ≡ true → fits_text y (text_of (child_of x t)) ≡ true
  leaf_in x d y e o = leaf_text Placed far (child_one Placed far m x (leaf d y) e o)

  pub value_in : (a : Attr) → attr_named a.named h.attrs ≡ given a → a.required ≡ true → fits_text a.texts (attr_of a.named t) ≡ true
  value_in a e r = attr_one h.attrs t (group_attrs Placed far m) a.named a e r

-- ---- the head

pub record HeadShaped (a : Tree) : Type 0 where
  pub tipo : 0 < length (attr_of (bytes "tipo") (a ▹ "Trasmissione"))
  pub region : IsNumber (text_of (a ▹ "Erogatore" ▹ "CodiceRegione"))
  pub asl : length (text_of (a ▹ "Erogatore" ▹ "CodiceASL")) ≡ 3
  pub taken : is_date (attr_of (bytes "data") (a ▹ "Eventi" ▹ "PresaInCarico")) ≡ true
  pub id : length (text_of (a ▹ "Eventi" ▹ "PresaInCarico" ▹ "Id_Rec")) ≡ 88

module _ (a : Tree) (trasmissione : Clean Parts.trasmissione (a ▹ "Trasmissione")) (erogatore : Clean Parts.erogatore (a ▹ "Erogatore")) {h : Particle}
    (presa : Clean (group h (Parts.one "Id_Rec" FieldTexts.id_rec ▸ none)) (a ▹ "Eventi" ▹ "PresaInCarico"))
    (dated : attr_named (bytes "data") h.attrs ≡ given (Parts.required "data" date)) where
  typed : fits_text FieldTexts.tipo_trasmissione (attr_of (bytes "tipo") (a ▹ "Trasmissione")) ≡ true
  unfolding attr_named same
  typed =
      attr_one (Parts.required "tipo" FieldTexts.tipo_trasmissione ∷ []) (a ▹ "Trasmissione") (leaf_attrs Placed far trasmissione) (bytes "tipo")
      (Parts.required "tipo" FieldTexts.tipo_trasmissione) refl refl

  head_by : HeadShaped a
  unfolding node_of owed same
  head_by =
      record {
        tipo = let c = (chars_fit _ 1 1 (attr_of (bytes "tipo") (a ▹ "Trasmissione")) typed).low in omega arith;
        region = region_number _ (text_of (a ▹ "Erogatore" ▹ "CodiceRegione")) (leaf_in erogatore (bytes "CodiceRegione") _ FieldTexts.regione_erogazione refl refl);
        asl = (spelled alnums 3 (text_of (a ▹ "Erogatore" ▹ "CodiceASL")) (leaf_in erogatore (bytes "CodiceASL") _ FieldTexts.cod_asl refl refl)).long;
        taken = date_is (attr_of (bytes "data") (a ▹ "Eventi" ▹ "PresaInCarico")) (value_in presa (Parts.required "data" date) dated refl);
        id = (spelled id_chars 88 (text_of (a ▹ "Eventi" ▹ "PresaInCarico" ▹ "Id_Rec")) (leaf_in presa (bytes "Id_Rec") _ FieldTexts.id_rec refl refl)).long;
      }

-- Eventi of each track
abbrev pub events_1 : Node
events_1 = Parts.all_of "Eventi" [] (Track1.presa_in_carico ▸ Track1.valutazione ▸ none)

abbrev pub events_2 : Node
events_2 = Parts.all_of "Eventi" [] Track2.eventi

head_1 : (a : Tree) → Clean Track1.assistenza a → HeadShaped a
unfolding node_of owed attr_named same
head_1 a m =
    let es = group_in m (bytes "Eventi") events_1 refl refl in
    head_by a (group_in m (bytes "Trasmissione") Parts.trasmissione refl refl) (group_in m (bytes "Erogatore") Parts.erogatore refl refl) (group_in es (bytes "PresaInCarico") Track1.presa_in_carico refl refl) refl

head_2 : (a : Tree) → Clean Track2.assistenza a → HeadShaped a
unfolding node_of owed attr_named same
head_2 a m =
    let es = group_in m (bytes "Eventi") events_2 refl refl in
    head_by a (group_in m (bytes "Trasmissione") Parts.trasmissione refl refl) (group_in m (bytes "Erogatore") Parts.erogatore refl refl) (group_in es (bytes "PresaInCarico") Track2.presa_in_carico refl refl) refl

pub head_shaped : (track : ℕ) (a : Tree) (d : ℕ) (l m : List ℕ) → element d l ≡ read a m → fault_of (each_of track) a ≡ 0 → HeadShaped a
unfolding Track1.track1 Track2.track2
head_shaped track a d l m e f = go (eqb track 1) f
  where
    go : (b : Bool) → fault_of (cond b Track1.assistenza Track2.assistenza) a ≡ 0 → HeadShaped a
    go true f = head_1 a (clean Track1.assistenza d l a m e f)
    go false f = head_2 a (clean Track2.assistenza d l a m e f)

pub head_in : {track : ℕ} {s : List ℕ} {top : Top} {a : Tree} → OfShape track s top a → HeadShaped a
head_in {track} {s} {a = a} x = head_shaped track a below_root (drop x.at s) x.tops.after x.tops.reads x.clean
