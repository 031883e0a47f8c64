-- A file of each track that is of the shape, and what is read of it: the rules above can be met.
use Prim.Native.String as string
use mathlib.Core.Path.{◌≡◌, refl}
use mathlib.Core.List.{List, [], ◌∷◌, map}
use lib.ListN.{replicate}
use Rattle.laws.specs.Decimal.{decimal_after}
use Rattle.laws.specs.Lists.{all, any, same, bytes}
use Rattle.days.specs.DayNumbers.{first_of}
use Rattle.days.specs.Dates.{is_date, day_of}
use Rattle.markup.specs.Tags.{Pair}
use Rattle.markup.specs.Elements.{Inside, Tree, mk}
use Rattle.markup.specs.Elements.Inside.{end, says, note, elem}
use Rattle.schema.specs.Texts.{fits_text}
use Rattle.schema.specs.Shape.{seek, enough, fault_in, named_in, records_of, fine, first_bad, shape_of}
use Rattle.nodes.specs.Lookup.{first_named, value_in}
use Rattle.schemas.specs.Track1
use Rattle.schemas.specs.Track2
use Rattle.rows.specs.Packing.{packs}
use Rattle.home_care.specs.Row.{never, event_number}
use Rattle.tracks.specs.EventElements.{wording_in}
use Rattle.tracks.specs.RecordFields.{admission_of, said_in, all_said}

abbrev ◌is◌ : string.String → string.String → Pair
k is v = record { key = bytes k; val = bytes v }

infix 40 ◌is◌
-- an element, and a leaf, before what follows
abbrev group : string.String → List Pair → Inside → Inside → Inside
group n ps i k = elem 1 (bytes n) ps i k

abbrev leaf : string.String → string.String → Inside → Inside
leaf n t k = elem 1 (bytes n) [] (says (bytes t) end) k

abbrev needs : List string.String → Inside → Inside
needs [] k = k
needs (n ∷ ns) k = leaf n "2" (needs ns k)

abbrev id_rec : Inside
id_rec = elem 1 (bytes "Id_Rec") [] (says (replicate 88 65) end) end

abbrev key : Inside → Inside
key k = group "PresaInCarico" (("data" is "2018-05-01") ∷ []) id_rec k

abbrev erogatore : Inside → Inside
erogatore k = group "Erogatore" [] (leaf "CodiceRegione" "010" (leaf "CodiceASL" "101" end)) k

abbrev trasmissione : Inside → Inside
trasmissione k = group "Trasmissione" (("tipo" is "I") ∷ []) end k

abbrev second : Tree
second =
    mk 1 (bytes "FlsAssDom_2") (("xmlns" is "") ∷ [])
    (group "Assistenza" []
    (trasmissione
    (erogatore
    (group "Eventi" []
    (key
    (group "Rivalutazione" (("data" is "2018-05-02") ∷ ("motivo" is "1") ∷ ("confermaPrecedente" is "1") ∷ []) (note end)
    (group "Erogazione" (("numAccessi" is "3") ∷ ("data" is "2018-05-03") ∷ []) (leaf "TipoOperatore" "99" end)
    (group "Sospensione" (("dataInizio" is "2018-05-04") ∷ []) (leaf "Motivazione" "9" end)
    (group "Conclusione" (("dataAD" is "2018-06-30") ∷ []) (leaf "Motivazione" "12" end) end)))))
    end)))
    end)

second-fine : shape_of Track2.track2 second ≡ fine 1
unfolding Track2.track2 shape_of first_bad named_in fault_in seek enough fits_text is_date decimal_after all any same
second-fine = refl

-- its four events: 2018-05-02 is day 43220, and so on
second_events : map (λ a. map (λ e. e.event) (all_said a)) (records_of Track2.track2 second) ≡ map (λ e. event_number e) (
    record { kind = 0; date = 43220; end = never; code = 1; accesses = 0; conferma = 1 } ∷ record { kind = 1; date = 43221; end = never; code = 99; accesses = 3; conferma = 0 } ∷
    record { kind = 2; date = 43222; end = never; code = 9; accesses = 0; conferma = 0 } ∷ record { kind = 3; date = 43279; end = never; code = 12; accesses = 0; conferma = 0 } ∷ []
    ) ∷ []
unfolding Track2.track2 named_in said_in wording_in first_named value_in day_of first_of decimal_after any same packs
second_events = refl

abbrev persona : Inside
persona =
    leaf "CUNI" "x"
    (leaf "validitaCI" "0"
    (leaf "tipologiaCI" "-0"
    (leaf "AnnoNascita" "1931"
    (leaf "Genere" "1"
    (leaf "Cittadinanza" "IT"
    (leaf "StatoCivile" "9"
    (group "Residenza" [] (leaf "Regione" "999" (leaf "ASL" "999" (leaf "Comune" "999999" (leaf "StatoEstero" "fr" end)))) end)))))))

abbrev valutazione : Inside
valutazione =
    group "Patologia" [] (leaf "Prevalente" "0000" (leaf "Concomitante" "000" end))
    (leaf "Autonomia" "3"
    (group "Disturbi" [] (says (bytes " ") (leaf "Comportamentali" "1" end))
    (leaf "RischioInfettivo" "2"
    (needs ("DrenaggioPosturale" ∷ "OssigenoTerapia" ∷ "Ventiloterapia" ∷ "Tracheostomia" ∷ [])
    (group "Alimentazione" [] (needs ("Assistita" ∷ "Enterale" ∷ "Parenterale" ∷ []) end)
    (needs ("GestioneStomia" ∷ "ElimiUrinariaIntestinale" ∷ "AlterRitmoSonnoVeglia" ∷ "IntEduTerapeutica" ∷ "CuraUlcereCutanee12Grado" ∷ "CuraUlcereCutanee34Grado" ∷
    "PrelieviVenosiNonOcc" ∷ "ECG" ∷ "Telemetria" ∷ "TerSottocutIntraMusInfus" ∷ "GestioneCatetere" ∷ "Trasfusioni" ∷ "ControlloDolore" ∷ "AssistStatoTerminaleOnc" ∷
    "AssistStatoTerminaleNonOnc" ∷ [])
    (group "TrattamentiRiab" [] end (leaf "AssistenzaADL" "1" end))))))))

abbrev first : Tree
first =
    mk 1 (bytes "FlsAssDom_1") []
    (group "Assistenza" []
    (trasmissione
    (group "Assistito" [] (group "DatiAnagrafici" [] persona end)
    (group "Conviventi" [] (leaf "NucleoFamiliare" "+07" (leaf "AssistenteNonFamiliare" "1" end))
    (erogatore
    (group "Eventi" []
    (group "PresaInCarico" (("soggettoRichiedente" is "9") ∷ ("data" is "2018-05-01") ∷ []) id_rec
    (group "Valutazione" (("data" is "2018-05-01") ∷ []) valutazione end))
    end)))))
    end)

first_fine : shape_of Track1.track1 first ≡ fine 1
unfolding Track1.track1 shape_of first_bad named_in fault_in seek enough fits_text is_date decimal_after all any same
first_fine = refl

-- its case: the scales that are missing are 0
first-case : map (λ a. (admission_of a).case) (records_of Track1.track1 first)
    ≡ record { birth = 1931; prevalente = 48 ∷ 48 ∷ 48 ∷ 48 ∷ 0 ∷ []; scales = 3 ∷ 0 ∷ 0 ∷ 1 ∷ 0 ∷ 2 ∷ [] } ∷ []
unfolding Track1.track1 named_in first_named decimal_after same
first-case = refl
