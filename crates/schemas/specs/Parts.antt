-- The words by which the schemas are written, nodes and attributes, and the nodes that both of them have.
use Rattle.std.specs.Prelude.{ℕ, true, false, List, [], ◌∷◌}
use Prim.Native.String as string
use Rattle.laws.specs.Lists.{bytes}
use Rattle.schema.specs.Texts.{Texts}
use Rattle.schema.specs.Schema.{Attr, Particle, Node, leaf, group, another, Nodes, none, ◌▸◌}
use Rattle.schemas.specs.FieldTexts.{empty, supporto_sociale, autonomia, grado_mobilita, disturbo, rischio_infettivo, bisogno, regione_erogazione, cod_asl, tipo_trasmissione, patologia, patologia_prevalente}

-- ---- the words

abbrev pub required : string.String → Texts → Attr
required n t = record { named = bytes n; required = true; texts = t }

abbrev pub optional : string.String → Texts → Attr
optional n t = record { named = bytes n; required = false; texts = t }

abbrev pub times : ℕ → ℕ → string.String → List Attr → Particle
times least most n attrs = record { named = bytes n; least = least; most = most; attrs = attrs; counted = false }

-- a leaf and a group that must stand once; that may be missing (minOccurs 0); that may stand any number of times
abbrev pub one : string.String → Texts → Node
one n t = leaf (times 1 1 n []) t

abbrev pub maybe : string.String → Texts → Node
maybe n t = leaf (times 0 1 n []) t

abbrev pub all_of : string.String → List Attr → Nodes → Node
all_of n attrs ns = group (times 1 1 n attrs) ns

abbrev pub maybe_all_of : string.String → List Attr → Nodes → Node
maybe_all_of n attrs ns = group (times 0 1 n attrs) ns

abbrev pub any_number_of : string.String → List Attr → Nodes → Node
any_number_of n attrs ns = group (times 0 0 n attrs) ns

-- S23: "no other element counts", and F7: "more than 128 events" are too many
abbrev pub event : Node → Node
event (group h ns) = group (record { named = h.named; least = h.least; most = h.most; attrs = h.attrs; counted = true }) ns
event (leaf h t) = leaf h t
event (another h) = another h

abbrev pub most_events : ℕ
most_events = 128

-- S7: "any whose name begins with the bytes `xmlns` or `xsi:`"
abbrev pub root_free : List (List ℕ)
root_free = bytes "xmlns" ∷ bytes "xsi:" ∷ []

-- ---- the nodes

abbrev pub trasmissione : Node
trasmissione = leaf (times 1 1 "Trasmissione" (required "tipo" tipo_trasmissione ∷ [])) empty

abbrev pub erogatore : Node
erogatore = all_of "Erogatore" [] (one "CodiceRegione" regione_erogazione ▸ one "CodiceASL" cod_asl ▸ none)

abbrev pub patologie : Node
patologie = all_of "Patologia" [] (one "Prevalente" patologia_prevalente ▸ one "Concomitante" patologia ▸ none)

abbrev pub alimentazione : Node
alimentazione = all_of "Alimentazione" [] (one "Assistita" bisogno ▸ one "Enterale" bisogno ▸ one "Parenterale" bisogno ▸ none)

abbrev pub trattamenti_riab : Node
trattamenti_riab =
    maybe_all_of "TrattamentiRiab" [] (maybe "Neurologico" bisogno ▸ maybe "Ortopedico" bisogno ▸ maybe "DiMantenimento" bisogno ▸ none)

abbrev pub disturbi : Nodes
disturbi = maybe "Cognitivi" disturbo ▸ maybe "Comportamentali" disturbo ▸ none

-- what stands in a Valutazione: both schemas list the same, but for whether Disturbi may be missing and how one name is spelled
abbrev pub valued : Node → string.String → Nodes
valued of_disturbi infusion =
    patologie ▸
    maybe "Autonomia" autonomia ▸
    maybe "GradoMobilita" grado_mobilita ▸
    of_disturbi ▸
    maybe "SupportoSociale" supporto_sociale ▸
    maybe "RischioInfettivo" rischio_infettivo ▸
    one "DrenaggioPosturale" bisogno ▸
    one "OssigenoTerapia" bisogno ▸
    one "Ventiloterapia" bisogno ▸
    one "Tracheostomia" bisogno ▸
    alimentazione ▸
    one "GestioneStomia" bisogno ▸
    one "ElimiUrinariaIntestinale" bisogno ▸
    one "AlterRitmoSonnoVeglia" bisogno ▸
    one "IntEduTerapeutica" bisogno ▸
    one "CuraUlcereCutanee12Grado" bisogno ▸
    one "CuraUlcereCutanee34Grado" bisogno ▸
    one "PrelieviVenosiNonOcc" bisogno ▸
    one "ECG" bisogno ▸
    one "Telemetria" bisogno ▸
    one infusion bisogno ▸
    one "GestioneCatetere" bisogno ▸
    one "Trasfusioni" bisogno ▸
    one "ControlloDolore" bisogno ▸
    one "AssistStatoTerminaleOnc" bisogno ▸
    one "AssistStatoTerminaleNonOnc" bisogno ▸
    trattamenti_riab ▸
    maybe "SupervisioneContinua" bisogno ▸
    maybe "AssistenzaIADL" bisogno ▸
    maybe "AssistenzaADL" bisogno ▸
    maybe "SupportoCareGiver" bisogno ▸
    none
