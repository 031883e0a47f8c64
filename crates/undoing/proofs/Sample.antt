-- A cancellation file computed, and taken: intake's sample register, whose case has two visits of one day and a suspension.
use Prim.Native.Nat.{ℕ, ◌+◌, ◌-◌, ◌/◌, ◌%◌, ◌≤◌, ◌<◌}
use Prim.Native.Char.{code}
use mathlib.Core.Path.{◌≡◌, refl, sym, ap, ◌∙◌}
use mathlib.Core.Bool.{cond}
use mathlib.Core.List.{List, [], ◌∷◌, ◌++◌}
use native.Mathlib.Omega.{arith}
use lib.Dec.{ltb}
use lib.ListN.{length, take, replicate}
use Rattle.laws.specs.Lists.{all, any, same, some_pair, bytes}
use Rattle.laws.specs.Decimal.{decimal_after}
use Rattle.text.specs.Spelled.{spelled_in, spelled}
use Rattle.days.specs.DayNumbers.{first_of, years_to, day_number}
use Rattle.days.specs.Dates.{is_date, day_of}
use Rattle.days.specs.WrittenDates.{month_in, date_spelled, date_text}
use Rattle.days.proofs.WrittenDates.{search_ends}
use Rattle.model.specs.Map.{find, keep}
use Rattle.rows.specs.Packing.{packs}
use Rattle.register.specs.Layout.{row_in}
use Rattle.register.specs.State.{from, rows_bytes, encode}
use Rattle.register.specs.Sound.{ascending}
use Rattle.home_care.specs.Row.{event_number}
use Rattle.soundness.specs.Sound.{is_sound}
use Rattle.soundness.specs.Finding.{found}
use Rattle.intake.specs.FileAnswers.{call_of, submitted}
use Rattle.intake.proofs.Samples.{visit, another, suspension, standing, held, size, holding}
use Rattle.intake.proofs.SoundBytes.{encode_fit}
use Rattle.cancellation.specs.Chosen.{those}
use Rattle.cancellation.specs.FileText.{CaseTexts, case_texts, events_on, records_on, file_text}
use Rattle.cancellation.specs.CancelFile.{Written, unwritten, file_written, cancel_file}
use Rattle.undoing.specs.Undone.{file_in}
use Rattle.undoing.proofs.Undoing.{undoes}

-- the case's texts, its register, and an output of ten bytes more than the file has
abbrev x : CaseTexts
x = case_texts (bytes "010") (bytes "101") (bytes "2018-05-01") (replicate 88 (code "A"))

abbrev reg : List ℕ
reg = holding standing

abbrev out : List ℕ
out = replicate 620 7

abbrev events : List ℕ
events = event_number visit ∷ event_number another ∷ event_number suspension ∷ []

-- the file
abbrev pub file : List ℕ
file =
    bytes "<FlsAssDom_2><Assistenza><Trasmissione tipo=\"C\"></Trasmissione><Erogatore><CodiceRegione>010</CodiceRegione><CodiceASL>101</CodiceASL></Erogatore>"
    ++ (bytes "<Eventi><PresaInCarico data=\"2018-05-01\"><Id_Rec>" ++ (replicate 88 (code "A") ++ (bytes "</Id_Rec></PresaInCarico>"
    ++ (bytes "<Erogazione data=\"2018-05-05\" numAccessi=\"2\"><TipoOperatore>3</TipoOperatore></Erogazione>"
    ++ (bytes "<Erogazione data=\"2018-05-05\"><TipoOperatore>7</TipoOperatore></Erogazione>"
    ++ (bytes "<Sospensione dataInizio=\"2018-05-10\" dataFine=\"2018-05-12\"><Motivazione>1</Motivazione></Sospensione>"
    ++ bytes "</Eventi></Assistenza></FlsAssDom_2>"))))))

-- the days are those of May 2018, the month 1,420 after January 1900
may : (n : ℕ) → first_of 1420 ≤ n → n < first_of 1421 → date_text n ≡ date_spelled 2018 5 (n - first_of 1420 + 1)
unfolding date_text
may n a b =
    let k : 1420 ≡ month_in n = (search_ends (record { order = omega arith; inside = omega arith; begun = a; later = λ _. b }) (omega arith)).0 in
    ap (λ (k : ℕ). date_spelled (1900 + k / 12) (k % 12 + 1) (n - first_of k + 1)) (sym k)

date_5 : date_text (day_number 2018 5 5) ≡ bytes "2018-05-05"
unfolding first_of
date_5 = may (day_number 2018 5 5) (omega arith) (omega arith)

date_10 : date_text (day_number 2018 5 10) ≡ bytes "2018-05-10"
unfolding first_of
date_10 = may (day_number 2018 5 10) (omega arith) (omega arith)

date_12 : date_text (day_number 2018 5 12) ≡ bytes "2018-05-12"
unfolding first_of
date_12 = may (day_number 2018 5 12) (omega arith) (omega arith)

-- the text around the dates
abbrev around : (five ten twelve : List ℕ) → List ℕ
around five ten twelve =
    bytes "<FlsAssDom_2><Assistenza><Trasmissione tipo=\"C\"></Trasmissione><Erogatore><CodiceRegione>010</CodiceRegione><CodiceASL>101</CodiceASL></Erogatore>"
    ++ (bytes "<Eventi><PresaInCarico data=\"2018-05-01\"><Id_Rec>" ++ (replicate 88 (code "A") ++ (bytes "</Id_Rec></PresaInCarico>"
    ++ (bytes "<Erogazione data=\"" ++ (five ++ (bytes "\" numAccessi=\"2\"><TipoOperatore>3</TipoOperatore></Erogazione>"
    ++ (bytes "<Erogazione data=\"" ++ (five ++ (bytes "\"><TipoOperatore>7</TipoOperatore></Erogazione>"
    ++ (bytes "<Sospensione dataInizio=\"" ++ (ten ++ (bytes "\" dataFine=\"" ++ (twelve ++ (bytes "\"><Motivazione>1</Motivazione></Sospensione>"
    ++ bytes "</Eventi></Assistenza></FlsAssDom_2>"))))))))))))))

file_is : file_text x events ≡ file
unfolding events_on records_on from spelled_in spelled packs first_of
file_is =
    let a : file_text x events ≡ around (date_text (day_number 2018 5 5)) (date_text (day_number 2018 5 10)) (date_text (day_number 2018 5 12)) = refl in
    a ∙ rw (date_5, date_10, date_12) refl

-- the call: answered 0, with the file and its length, and ten bytes stay
pub gives : cancel_file reg x 2018 2 out ≡ record { answer = 0; long = 610; output = file ++ replicate 10 7 }
unfolding all any same decimal_after first_of years_to is_date day_of some_pair find keep packs row_in from rows_bytes encode ascending is_sound found those cancel_file
gives =
    let a : cancel_file reg x 2018 2 out ≡ cond (ltb (length out) (length (file_text x events))) (unwritten out 33) (file_written out (file_text x events)) = refl in
    a ∙ ap (λ (f : List ℕ). cond (ltb (length out) (length f)) (unwritten out 33) (file_written out f)) file_is

-- the file taken, with an answer list of two bytes 9: its one record is accepted, and the register is as it was before the events
pub taken_back : submitted (call_of file 2 2018 2 (9 ∷ 9 ∷ [])) reg ≡
    record { answer = 0; number = 0; records = 1; accepted = 1; discarded = 0; place = 0; register = holding (held "0202"); answers = 0 ∷ 9 ∷ [] }
unfolding all any same decimal_after first_of years_to is_date day_of some_pair find keep packs row_in from rows_bytes encode ascending is_sound found those
taken_back =
    let q : file_in reg x 2018 2 out ≡ file = ap (λ (w : Written). take w.long w.output) gives in
    ap (λ (f : List ℕ). submitted (call_of f 2 2018 2 (9 ∷ 9 ∷ [])) reg) (sym q)
    ∙ undoes reg (encode_fit size standing) x 2018 2 out (ap (λ (w : Written). w.answer) gives) (9 ∷ 9 ∷ []) (omega arith)
