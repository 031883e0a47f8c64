-- A record of Track 1 that is without a fault, by its paths.
use Prim.Native.Nat.{ℕ, ◌<◌}
use mathlib.Core.Path.{◌≡◌, refl, ap}
use mathlib.Core.Bool.{true}
use mathlib.Core.List.{List, []}
use mathlib.Core.Logic.{◌⊎◌, inl, inr}
use Rattle.laws.specs.Decimal.{decimal}
use Rattle.laws.specs.Lists.{same, bytes}
use Rattle.codes.specs.CodesAndCharacters.{in_ranges, letters, alnums}
use Rattle.markup.specs.Elements.{Tree}
use Rattle.schema.specs.Texts.{Texts, fits_text}
use Rattle.schema.specs.Schema.{Particle, Node, leaf, group, another, Nodes, none, ◌▸◌}
use Rattle.nodes.specs.Lookup.{child_of, text_of}
use Rattle.nodes.proofs.Present.{node_of, only, owed, MayLack, lacks, has, child_one, child_maybe}
use Rattle.nodes.proofs.Fields.{attr_named}
use Rattle.nodes.proofs.Legible.{Legible}
use Rattle.schemas.specs.FieldTexts
use Rattle.schemas.specs.Parts
use Rattle.schemas.specs.Track1
use Rattle.tracks.specs.RecordFields.{◌▹◌, main_of, admission_of, head_of}
use Rattle.tracks.specs.WellRead.{WellHead, WellCase, WellResidence, WellAdmission, WellPrevalente, Spelled}
use Rattle.tracks.proofs.Scales.{graded_1, rated, well_scales}
use Rattle.tracks.proofs.Texts.{spelled, wide_fit, four_digits}
use Rattle.tracks.proofs.Paths.{Clean, far, text_fits, head_read, prevalente_read}

-- the nodes in a Residenza
abbrev inside : Node → Nodes
inside (leaf h x) = none
inside (group h ns) = ns
inside (another h) = none

abbrev residence_nodes : Nodes
residence_nodes = inside Track1.residenza

-- ---- the groups on the way

module _ (a : Tree) (m : Clean Track1.assistenza a) where
  trasmissione : Clean Parts.trasmissione (a ▹ "Trasmissione")
  unfolding node_of owed same
  trasmissione = child_one Legible far m (bytes "Trasmissione") Parts.trasmissione refl refl

  erogatore : Clean Parts.erogatore (a ▹ "Erogatore")
  unfolding node_of owed same
  erogatore = child_one Legible far m (bytes "Erogatore") Parts.erogatore refl refl

  abbrev eventi : Node
  eventi = Parts.all_of "Eventi" [] (Track1.presa_in_carico ▸ Track1.valutazione ▸ none)

  events : Clean eventi (a ▹ "Eventi")
  unfolding node_of owed same
  events = child_one Legible far m (bytes "Eventi") eventi refl refl

  presa : Clean Track1.presa_in_carico (a ▹ "Eventi" ▹ "PresaInCarico")
  unfolding node_of owed same
  presa = child_one Legible far events (bytes "PresaInCarico") Track1.presa_in_carico refl refl

  value : Clean Track1.valutazione (a ▹ "Eventi" ▹ "Valutazione")
  unfolding node_of owed same
  value = child_one Legible far events (bytes "Valutazione") Track1.valutazione refl refl

  assistito : Clean Track1.assistito (a ▹ "Assistito")
  unfolding node_of owed same
  assistito = child_one Legible far m (bytes "Assistito") Track1.assistito refl refl

  abbrev persona : Nodes
  persona =
      Parts.one "CUNI" FieldTexts.cuni ▸
      Parts.one "validitaCI" FieldTexts.validita_ci ▸
      Parts.one "tipologiaCI" FieldTexts.tipologia_ci ▸
      Parts.one "AnnoNascita" FieldTexts.anno ▸
      Parts.one "Genere" FieldTexts.genere ▸
      Parts.one "Cittadinanza" FieldTexts.cittadinanza ▸
      Parts.one "StatoCivile" FieldTexts.stato_civile ▸
      Track1.residenza ▸
      none

  person : Clean (Parts.all_of "DatiAnagrafici" [] persona) (a ▹ "Assistito" ▹ "DatiAnagrafici")
  unfolding node_of owed same
  person = child_one Legible far assistito (bytes "DatiAnagrafici") (Parts.all_of "DatiAnagrafici" [] persona) refl refl

  home : Clean Track1.residenza (a ▹ "Assistito" ▹ "DatiAnagrafici" ▹ "Residenza")
  unfolding node_of owed same
  home = child_one Legible far person (bytes "Residenza") Track1.residenza refl refl

  -- ---- the fields

  pub head_1 : WellHead (head_of a)
  unfolding attr_named same
  head_1 = head_read a trasmissione erogatore presa refl

  anno : Clean (Parts.one "AnnoNascita" FieldTexts.anno) (a ▹ "Assistito" ▹ "DatiAnagrafici" ▹ "AnnoNascita")
  unfolding node_of owed same
  anno = child_one Legible far person (bytes "AnnoNascita") (Parts.one "AnnoNascita" FieldTexts.anno) refl refl

  -- a leaf of the residence that must come
  at_home : (x : List ℕ) (d : Particle) (y : Texts) → node_of x residence_nodes ≡ only (leaf d y) → owed x residence_nodes 0 ≡ true
      → fits_text y (text_of (child_of x (a ▹ "Assistito" ▹ "DatiAnagrafici" ▹ "Residenza"))) ≡ true
  at_home x d y e o = text_fits (child_one Legible far home x (leaf d y) e o)

  stato : (text_of (a ▹ "Assistito" ▹ "DatiAnagrafici" ▹ "Residenza" ▹ "StatoEstero") ≡ []) ⊎ Spelled (in_ranges letters) 2 (text_of (a ▹ "Assistito" ▹ "DatiAnagrafici" ▹ "Residenza" ▹ "StatoEstero"))
  unfolding node_of same
  stato = go (child_maybe Legible far home (bytes "StatoEstero") (Parts.maybe "StatoEstero" FieldTexts.stato_estero) refl)
    where
      go : MayLack Legible (Parts.maybe "StatoEstero" FieldTexts.stato_estero) (bytes "StatoEstero") (a ▹ "Assistito" ▹ "DatiAnagrafici" ▹ "Residenza")
          → (text_of (a ▹ "Assistito" ▹ "DatiAnagrafici" ▹ "Residenza" ▹ "StatoEstero") ≡ []) ⊎ Spelled (in_ranges letters) 2 (text_of (a ▹ "Assistito" ▹ "DatiAnagrafici" ▹ "Residenza" ▹ "StatoEstero"))
      go (lacks u v) = inl (ap text_of v)
      go (has u v) = inr (spelled letters 2 (text_of (a ▹ "Assistito" ▹ "DatiAnagrafici" ▹ "Residenza" ▹ "StatoEstero")) (text_fits v))

  residence_read : WellResidence (admission_of a).residence
  unfolding node_of owed same
  residence_read =
      let r = wide_fit 3 _ (text_of (a ▹ "Assistito" ▹ "DatiAnagrafici" ▹ "Residenza" ▹ "Regione")) (at_home (bytes "Regione") _ FieldTexts.regione_residenza refl refl) in
      record {
        region = r.0;
        listed = r.1;
        asl = spelled alnums 3 _ (at_home (bytes "ASL") _ FieldTexts.cod_asl refl refl);
        comune = spelled alnums 6 _ (at_home (bytes "Comune") _ FieldTexts.comune refl refl);
        stato = stato;
      }

  birth : decimal (text_of (a ▹ "Assistito" ▹ "DatiAnagrafici" ▹ "AnnoNascita")) < 10000
  birth = four_digits (text_of (a ▹ "Assistito" ▹ "DatiAnagrafici" ▹ "AnnoNascita")) (text_fits anno)

  prevalente : WellPrevalente (main_of (a ▹ "Eventi" ▹ "Valutazione"))
  unfolding node_of same
  prevalente = prevalente_read value refl

  case_read : WellCase (admission_of a).case
  case_read =
      record {
        birth = birth;
        written = main_of (a ▹ "Eventi" ▹ "Valutazione");
        prevalente = prevalente;
        fills = refl;
        scaled = well_scales (a ▹ "Eventi" ▹ "Valutazione") (rated Legible far graded_1 value);
      }

  -- A RECORD OF TRACK 1
  pub admission_read : WellAdmission (admission_of a)
  admission_read = record { case = case_read; residence = residence_read }
