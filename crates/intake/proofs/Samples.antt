-- Five files computed from their bytes on: a Track 1 file with three records of one case, a Track 2 file with that case's events, one that cancels them, a
-- Track 1 file that cancels the case while they stand, and one that inserts and cancels another case beside them.
use Prim.Native.Nat.{ℕ}
use Prim.Native.Char.{Char, code}
use Prim.Native.String as string
use mathlib.Core.Path.{◌≡◌, refl, ap, ◌∙◌}
use mathlib.Core.Bool.{false}
use mathlib.Core.List.{List, [], ◌∷◌, ◌++◌}
use lib.ListN.{replicate}
use Rattle.laws.specs.Lists.{all, any, same, some_pair, bytes}
use Rattle.laws.specs.Loop.{turns, loop}
use Rattle.laws.specs.Decimal.{decimal_after}
use Rattle.days.specs.DayNumbers.{first_of, years_to, day_number}
use Rattle.days.specs.Dates.{is_date, day_of}
use Rattle.markup.specs.Bytes.{run_length}
use Rattle.markup.specs.NamesAndValues.{skip_ws, byte, name, value}
use Rattle.markup.specs.Comments.{comment, dashed, declared}
use Rattle.markup.specs.Tags.{attribute, attributes_step, attributes, differ, tag, end_tag}
use Rattle.markup.specs.Elements.{piece, content, element}
use Rattle.markup.specs.Document.{declares, declaration, misc_step, misc, document}
use Rattle.schema.specs.Shape.{seek, enough, fault_in, named_in, first_bad, shape_of}
use Rattle.schema.specs.Texts.{fits_text}
use Rattle.nodes.specs.Lookup.{first_named, value_in}
use Rattle.schemas.specs.Track1.{track1}
use Rattle.schemas.specs.Track2.{track2}
use Rattle.model.specs.Map.{Row, find, put, keep, put_all, del_all, any_in, all_in, twice}
use Rattle.model.specs.Checks.{first}
use Rattle.model.specs.Machine.{zeros, others, run, answers}
use Rattle.model.specs.Log.{calls}
use Rattle.model.specs.Flow.{State, empty, machine}
use Rattle.rows.specs.Packing.{packs}
use Rattle.register.specs.Layout.{row_at, row_in}
use Rattle.register.specs.State.{from, state_of, rows_bytes, encode}
use Rattle.register.specs.RoomAndEmptying.{emptied}
use Rattle.register.specs.Sound.{ascending}
use Rattle.home_care.specs.Row.{Key, Case, Event, siad, never, key_number, event_number, event_row}
use Rattle.home_care.specs.Fits.{case_with, event_with}
use Rattle.home_care.specs.Record.{padded, Said, Record, admission, events, event_numbers}
use Rattle.tracks.specs.RecordFields.{said_in, record_of}
use Rattle.tracks.specs.TooMany.{too_many}
use Rattle.tracks.specs.EventElements.{wording_in}
use Rattle.soundness.specs.Sound.{is_sound}
use Rattle.checks.specs.Flow.{case_row, event_rows}
use Rattle.intake.specs.FileAnswers.{Call, call_of, Submitted, submitted}
use Rattle.intake.specs.RecordsIn.{records_in}
use Rattle.intake.specs.Demands.{left_by}
use Rattle.intake.specs.Histories.{reg_after}

-- a text in parts
abbrev parts : List string.String → List ℕ
parts [] = []
parts (s ∷ ss) = bytes s ++ parts ss

abbrev opening : Char → List ℕ
opening tipo = bytes "<Assistenza><Trasmissione tipo=\"" ++ (code tipo ∷ bytes "\"/>")

abbrev sender : List ℕ
sender = bytes "<Erogatore><CodiceRegione>010</CodiceRegione><CodiceASL>101</CodiceASL></Erogatore>"

abbrev id_rec : Char → List ℕ
id_rec id = bytes "<Id_Rec>" ++ (replicate 88 (code id) ++ bytes "</Id_Rec>")

-- Track 1: of the case with that letter, a record of that type, with that prevalente
abbrev admitted : Char → Char → string.String → List ℕ
admitted id tipo prevalente =
    opening tipo ++
    (parts
    ("<Assistito><DatiAnagrafici><CUNI>ABC</CUNI><validitaCI>0</validitaCI><tipologiaCI>99</tipologiaCI><AnnoNascita>1951</AnnoNascita><Genere>1</Genere>" ∷
    "<Cittadinanza>IT</Cittadinanza><StatoCivile>9</StatoCivile><Residenza><Regione>999</Regione><ASL>999</ASL><Comune>999999</Comune>" ∷
    "<StatoEstero>fr</StatoEstero></Residenza></DatiAnagrafici></Assistito>" ∷
    "<Conviventi><NucleoFamiliare>2</NucleoFamiliare><AssistenteNonFamiliare>1</AssistenteNonFamiliare></Conviventi>" ∷ []) ++
    (sender ++
    (bytes "<Eventi><PresaInCarico data=\"2018-05-01\" soggettoRichiedente=\"1\">" ++
    (id_rec id ++
    parts
    ("</PresaInCarico><Valutazione data=\"2018-05-02\"><Patologia><Prevalente>" ∷ prevalente ∷ "</Prevalente><Concomitante>015</Concomitante></Patologia>" ∷
    "<Autonomia>1</Autonomia><GradoMobilita>3</GradoMobilita><Disturbi><Cognitivi>1</Cognitivi><Comportamentali>2</Comportamentali></Disturbi>" ∷
    "<SupportoSociale>3</SupportoSociale><RischioInfettivo>2</RischioInfettivo><DrenaggioPosturale>1</DrenaggioPosturale>" ∷
    "<OssigenoTerapia>1</OssigenoTerapia><Ventiloterapia>1</Ventiloterapia><Tracheostomia>1</Tracheostomia>" ∷
    "<Alimentazione><Assistita>1</Assistita><Enterale>2</Enterale><Parenterale>1</Parenterale></Alimentazione><GestioneStomia>2</GestioneStomia>" ∷
    "<ElimiUrinariaIntestinale>2</ElimiUrinariaIntestinale><AlterRitmoSonnoVeglia>2</AlterRitmoSonnoVeglia><IntEduTerapeutica>2</IntEduTerapeutica>" ∷
    "<CuraUlcereCutanee12Grado>2</CuraUlcereCutanee12Grado><CuraUlcereCutanee34Grado>2</CuraUlcereCutanee34Grado>" ∷
    "<PrelieviVenosiNonOcc>2</PrelieviVenosiNonOcc><ECG>2</ECG><Telemetria>2</Telemetria><TerSottocutIntraMusInfus>2</TerSottocutIntraMusInfus>" ∷
    "<GestioneCatetere>2</GestioneCatetere><Trasfusioni>2</Trasfusioni><ControlloDolore>2</ControlloDolore>" ∷
    "<AssistStatoTerminaleOnc>2</AssistStatoTerminaleOnc><AssistStatoTerminaleNonOnc>2</AssistStatoTerminaleNonOnc>" ∷
    "</Valutazione></Eventi></Assistenza>" ∷ [])))))

-- Track 2: a record of that type, with those events
abbrev happened : Char → List string.String → List ℕ
happened tipo es =
    opening tipo ++
    (sender ++ (bytes "<Eventi><PresaInCarico data=\"2018-05-01\">" ++ (id_rec "A" ++ parts ("</PresaInCarico>" ∷ es) ++ bytes "</Eventi></Assistenza>")))

-- the visits of two operators on one day, and a suspension
abbrev these : List string.String
these =
    "<Erogazione data=\"2018-05-05\" numAccessi=\"2\"><TipoOperatore>3</TipoOperatore></Erogazione>" ∷
    "<Erogazione data=\"2018-05-05\"><TipoOperatore>7</TipoOperatore></Erogazione>" ∷
    "<Sospensione dataInizio=\"2018-05-10\" dataFine=\"2018-05-12\"><Motivazione>1</Motivazione></Sospensione>" ∷
    []

-- the case is inserted, inserted again, and varied
abbrev cases : List ℕ
cases = bytes "<FlsAssDom_1>" ++ (admitted "A" "I" "0101" ++ (admitted "A" "I" "0101" ++ (admitted "A" "V" "0202" ++ bytes "</FlsAssDom_1>")))

-- the three are inserted; then a record without events; and the three are cancelled
abbrev inserted : List ℕ
inserted = bytes "<FlsAssDom_2>" ++ (happened "I" these ++ (happened "I" [] ++ bytes "</FlsAssDom_2>"))

abbrev cancelled : List ℕ
cancelled = bytes "<FlsAssDom_2>" ++ (happened "C" these ++ bytes "</FlsAssDom_2>")

-- the case is cancelled, inserted again, and cancelled again
abbrev withdrawn : List ℕ
withdrawn = bytes "<FlsAssDom_1>" ++ (admitted "A" "C" "0202" ++ (admitted "A" "I" "0101" ++ (admitted "A" "C" "0101" ++ bytes "</FlsAssDom_1>")))

-- another case is inserted by mistake, and cancelled at once
abbrev mistaken : List ℕ
mistaken = bytes "<FlsAssDom_1>" ++ (admitted "B" "I" "0101" ++ (admitted "B" "C" "0101" ++ bytes "</FlsAssDom_1>"))

-- all of quarter 2 of 2018, with an answer list of four bytes 9
abbrev pub admissions : Call
admissions = call_of cases 1 2018 2 (replicate 4 9)

abbrev pub visits : Call
visits = call_of inserted 2 2018 2 (replicate 4 9)

abbrev pub cancellation : Call
cancellation = call_of cancelled 2 2018 2 (replicate 4 9)

abbrev pub withdrawal : Call
withdrawal = call_of withdrawn 1 2018 2 (replicate 4 9)

abbrev pub mistake : Call
mistake = call_of mistaken 1 2018 2 (replicate 4 9)

-- a register with room for five rows, whatever it held
abbrev pub size : ℕ
size = row_at siad 5

abbrev pub register : List ℕ
register = replicate size 7

abbrev pub key_of : Char → Key
key_of id = record { region = 10; asl = bytes "101"; taken = day_number 2018 5 1; id = replicate 88 (code id) }

abbrev pub key : Key
key = key_of "A"

-- the case as a record with that prevalente says it
abbrev pub case_said : string.String → Case
case_said prevalente = case_with 1951 (padded (bytes prevalente)) (1 ∷ 3 ∷ 1 ∷ 2 ∷ 3 ∷ 2 ∷ [])

-- the events as they are said
abbrev said : Event → Said
said e = record { event = event_number e; valued = false; prevalente = []; evaluation = 0 }

abbrev pub visit : Event
visit = event_with 1 (day_number 2018 5 5) 3 never 2 0

abbrev pub another : Event
another = event_with 1 (day_number 2018 5 5) 7 never 0 0

abbrev pub suspension : Event
suspension = event_with 2 (day_number 2018 5 10) 1 (day_number 2018 5 12) 0 0

abbrev pub admit : Char → Char → string.String → Record
admit id tipo prevalente =
    admission (record { tipo = code tipo; key = key_of id })
    (record { case = case_said prevalente; residence = record { region = bytes "999"; asl = bytes "999"; comune = bytes "999999"; stato = bytes "fr" } })

abbrev pub send : Char → Record
send tipo = events (record { tipo = code tipo; key = key }) (said visit ∷ said another ∷ said suspension ∷ [])

-- what stands with the case alone, and with its events
abbrev pub held : string.String → State ℕ ℕ
held prevalente = record { cases = case_row key (case_said prevalente) ∷ []; events = [] }

abbrev row : Event → Row ℕ
row e = event_row (key_number key) (event_number e) 0

abbrev pub standing : State ℕ ℕ
standing =
    record {
      cases = case_row key (case_said "0202") ∷ [];
      events = row visit ∷ row another ∷ row suspension ∷ [];
    }

-- that register emptied, and the bytes of a state in it
abbrev pub begun : List ℕ
begun = reg_after register []

abbrev pub holding : State ℕ ℕ → List ℕ
holding s = encode siad size s

-- what the five calls give
pub record Given : Type 0 where
  -- Track 1: accepted, 14, accepted; the case stands as the third record says it
  pub first : submitted admissions begun ≡
      record { answer = 0; number = 0; records = 3; accepted = 2; discarded = 1; place = 0; register = holding (held "0202"); answers = 0 ∷ 14 ∷ 0 ∷ 9 ∷ [] }
  -- Track 2: accepted, 20; the accepted record's events stand
  pub second : submitted visits (holding (held "0202")) ≡
      record { answer = 0; number = 0; records = 2; accepted = 1; discarded = 1; place = 0; register = holding standing; answers = 0 ∷ 20 ∷ 9 ∷ 9 ∷ [] }
  -- the events cancelled: accepted; every byte is as it was before they were inserted
  pub third : submitted cancellation (holding standing) ≡
      record { answer = 0; number = 0; records = 1; accepted = 1; discarded = 0; place = 0; register = holding (held "0202"); answers = 0 ∷ 9 ∷ 9 ∷ 9 ∷ [] }
  -- the case cancelled while its events stand: accepted, and they go with it; inserted again it comes back without them; the last leaves nothing
  pub fourth : submitted withdrawal (holding standing) ≡
      record { answer = 0; number = 0; records = 3; accepted = 3; discarded = 0; place = 0; register = holding empty; answers = 0 ∷ 0 ∷ 0 ∷ 9 ∷ [] }
  -- the other case inserted into the last row of room and cancelled: every byte is as before, those of the events too
  pub fifth : submitted mistake (holding standing) ≡
      record { answer = 0; number = 0; records = 2; accepted = 2; discarded = 0; place = 0; register = holding standing; answers = 0 ∷ 0 ∷ 9 ∷ 9 ∷ [] }

pub gives : Given
unfolding all any same turns loop decimal_after run_length skip_ws byte name value comment dashed declared attribute attributes_step attributes differ tag end_tag
    piece content element declares declaration misc_step misc document named_in record_of first_named value_in said_in wording_in day_of track1 track2
    seek enough fault_in first_bad shape_of fits_text is_date too_many
    some_pair first_of years_to find put keep put_all del_all any_in all_in twice first run answers machine packs event_numbers event_rows
    zeros others row_in from rows_bytes encode emptied calls ascending is_sound submitted
gives = record { first = refl; second = refl; third = refl; fourth = refl; fifth = refl }

-- the records of the second file, and of those after it
pub record Written : Type 0 where
  pub second : records_in visits ≡ send "I" ∷ events (record { tipo = code "I"; key = key }) [] ∷ []
  pub third : records_in cancellation ≡ send "C" ∷ []
  pub fourth : records_in withdrawal ≡ admit "A" "C" "0202" ∷ admit "A" "I" "0101" ∷ admit "A" "C" "0101" ∷ []
  pub fifth : records_in mistake ≡ admit "B" "I" "0101" ∷ admit "B" "C" "0101" ∷ []

pub says : Written
unfolding all any same turns loop decimal_after run_length skip_ws byte name value comment dashed declared attribute attributes_step attributes differ tag end_tag
    piece content element declares declaration misc_step misc document named_in record_of first_named value_in said_in wording_in day_of track1 track2
    first_of packs
says = record { second = refl; third = refl; fourth = refl; fifth = refl }

-- what the first record alone leaves
pub first_record : left_by admissions begun 1 ≡ held "0101"
unfolding all any same turns loop decimal_after run_length skip_ws byte name value comment dashed declared attribute attributes_step attributes differ tag end_tag
    piece content element declares declaration misc_step misc document named_in record_of first_named value_in said_in wording_in day_of track1 track2
    some_pair first_of years_to find put keep put_all del_all any_in all_in twice first run answers machine packs event_numbers event_rows
    row_in from emptied calls
first_record = refl

-- the register after one, two and three of them
pub after_first : reg_after register (admissions ∷ []) ≡ holding (held "0202")
unfolding calls
after_first = ap (λ (r : Submitted). r.register) gives.first

pub after_second : reg_after register (admissions ∷ visits ∷ []) ≡ holding standing
unfolding calls
after_second = ap (λ (b : List ℕ). (submitted visits b).register) after_first ∙ ap (λ (r : Submitted). r.register) gives.second

pub after_fourth : reg_after register (admissions ∷ visits ∷ withdrawal ∷ []) ≡ holding empty
unfolding calls
after_fourth = ap (λ (b : List ℕ). (submitted withdrawal b).register) after_second ∙ ap (λ (r : Submitted). r.register) gives.fourth

-- the accepted events stand beside their case
pub both_stand : state_of siad (reg_after register (admissions ∷ visits ∷ [])) ≡ standing
unfolding rows_bytes encode row_in from packs first_of
both_stand = ap (state_of siad) after_second
