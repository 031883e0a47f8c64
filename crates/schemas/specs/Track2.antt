-- Track 2 (SIAD 6.4, 4.6.2), element by element.
use Rattle.std.specs.Prelude.{[], ◌∷◌}
use Rattle.laws.specs.Lists.{bytes}
use Rattle.schema.specs.Texts.{date}
use Rattle.schema.specs.Schema.{Node, group, another, Nodes, none, ◌▸◌, Schema}
use Rattle.schemas.specs.FieldTexts
use Rattle.schemas.specs.Parts

abbrev pub presa_in_carico : Node
presa_in_carico = Parts.all_of "PresaInCarico" (Parts.required "data" date ∷ []) (Parts.one "Id_Rec" FieldTexts.id_rec ▸ none)

abbrev pub valutazione : Node
valutazione =
    Parts.maybe_all_of "Valutazione" []
    (Parts.valued (Parts.maybe_all_of "Disturbi" [] Parts.disturbi) "TerSottocutIntraMuscInfus")

abbrev pub rivalutazione : Node
rivalutazione =
    Parts.event
    (Parts.any_number_of "Rivalutazione"
    (Parts.required "data" date ∷ Parts.required "motivo" FieldTexts.motivo_rivalutazione ∷ Parts.required "confermaPrecedente" FieldTexts.conferma_precedente ∷ [])
    (valutazione ▸ none))

abbrev pub erogazione : Node
erogazione =
    Parts.event
    (Parts.any_number_of "Erogazione" (Parts.required "data" date ∷ Parts.optional "numAccessi" FieldTexts.num_accessi ∷ [])
    (Parts.one "TipoOperatore" FieldTexts.tipo_operatore ▸
    Parts.any_number_of "Prestazioni" []
    (Parts.one "TipoPrestazione" FieldTexts.tipo_prestazione ▸ Parts.one "numPrestazione" FieldTexts.quantita_prestazione ▸ none) ▸
    none))

abbrev pub sospensione : Node
sospensione =
    Parts.event
    (Parts.any_number_of "Sospensione" (Parts.required "dataInizio" date ∷ Parts.optional "dataFine" date ∷ [])
    (Parts.one "Motivazione" FieldTexts.motivazione_sospensione ▸ none))

abbrev pub conclusione : Node
conclusione =
    Parts.event
    (Parts.maybe_all_of "Conclusione" (Parts.required "dataAD" date ∷ []) (Parts.one "Motivazione" FieldTexts.motivazione_conclusione ▸ none))

-- S4: "PresaInCarico, any number of Rivalutazione, of Erogazione and of Sospensione, and at most one Conclusione"
abbrev pub eventi : Nodes
eventi = presa_in_carico ▸ rivalutazione ▸ erogazione ▸ sospensione ▸ conclusione ▸ none

-- S4: "A record of Track 2 has Trasmissione, Erogatore and Eventi"
abbrev pub assistenza : Node
assistenza =
    group (Parts.times 1 0 "Assistenza" [])
    (Parts.trasmissione ▸
    Parts.erogatore ▸
    Parts.all_of "Eventi" [] eventi ▸
    none)

unfoldable pub track2 : Schema
track2 =
    record {
      root = bytes "FlsAssDom_2";
      free = Parts.root_free;
      nodes = another (Parts.times 1 0 "Assistenza" []) ▸ none;
      each = assistenza;
      most = Parts.most_events;
    }
