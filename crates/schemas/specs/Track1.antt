-- Track 1 (SIAD 6.4, 4.5.2), element by element.
use Rattle.std.specs.Prelude.{[], ◌∷◌}
use Rattle.laws.specs.Lists.{bytes}
use Rattle.schema.specs.Texts.{date}
use Rattle.schema.specs.Schema.{Node, group, another, none, ◌▸◌, Schema}
use Rattle.schemas.specs.FieldTexts
use Rattle.schemas.specs.Parts

abbrev pub residenza : Node
residenza =
    Parts.all_of "Residenza" []
    (Parts.one "Regione" FieldTexts.regione_residenza ▸
    Parts.one "ASL" FieldTexts.cod_asl ▸
    Parts.one "Comune" FieldTexts.comune ▸
    Parts.maybe "StatoEstero" FieldTexts.stato_estero ▸
    none)

abbrev pub assistito : Node
assistito =
    Parts.all_of "Assistito" []
    (Parts.all_of "DatiAnagrafici" []
    (Parts.one "CUNI" FieldTexts.cuni ▸
    Parts.one "validitaCI" FieldTexts.validita_ci ▸
    Parts.one "tipologiaCI" FieldTexts.tipologia_ci ▸
    Parts.one "AnnoNascita" FieldTexts.anno ▸
    Parts.one "Genere" FieldTexts.genere ▸
    Parts.one "Cittadinanza" FieldTexts.cittadinanza ▸
    Parts.one "StatoCivile" FieldTexts.stato_civile ▸
    residenza ▸
    none) ▸
    none)

abbrev pub conviventi : Node
conviventi =
    Parts.all_of "Conviventi" []
    (Parts.one "NucleoFamiliare" FieldTexts.nucleo_familiare ▸
    Parts.one "AssistenteNonFamiliare" FieldTexts.assistente_non_familiare ▸
    none)

abbrev pub presa_in_carico : Node
presa_in_carico =
    Parts.all_of "PresaInCarico" (Parts.required "data" date ∷ Parts.required "soggettoRichiedente" FieldTexts.soggetto_richiedente ∷ [])
    (Parts.one "Id_Rec" FieldTexts.id_rec ▸ none)

abbrev pub valutazione : Node
valutazione =
    Parts.all_of "Valutazione" (Parts.required "data" date ∷ [])
    (Parts.valued (Parts.all_of "Disturbi" [] Parts.disturbi) "TerSottocutIntraMusInfus")

-- S3: "Trasmissione, Assistito, Conviventi, Erogatore and Eventi, and in Eventi PresaInCarico and Valutazione"
abbrev pub assistenza : Node
assistenza =
    group (Parts.times 1 0 "Assistenza" [])
    (Parts.trasmissione ▸
    assistito ▸
    conviventi ▸
    Parts.erogatore ▸
    Parts.all_of "Eventi" [] (presa_in_carico ▸ valutazione ▸ none) ▸
    none)

unfoldable pub track1 : Schema
track1 =
    record {
      root = bytes "FlsAssDom_1";
      free = Parts.root_free;
      nodes = another (Parts.times 1 0 "Assistenza" []) ▸ none;
      each = assistenza;
      most = Parts.most_events;
    }
