-- What the code's parts say while a cancellation file is measured and written.
use Rattle.std.specs.Prelude.{ℕ, ◌+◌, ◌*◌, ◌^◌, ◌≤◌, ◌<◌, ◌≡◌, ◌||◌, List, [], ◌∷◌, ◌++◌, length, take, drop, Option, Some, None, Result, Ok, Err}
use Rattle.laws.specs.Lists.{any, bytes}
use Rattle.text.specs.Put.{Put}
use Rattle.text.specs.Spelled.{spelled}
use Rattle.days.specs.WrittenDates.{date_text}
use Rattle.markup.specs.Tags.{Pair}
use Rattle.markup.specs.Elements.Inside.{end}
use Rattle.reading.specs.Print.{print_on}
use Rattle.schemas.specs.Parts.{most_events}
use Rattle.home_care.specs.Row.{day_bits}
use Rattle.soundness.specs.declared.find.CaseTexts.{CaseTexts as Texts}
use Rattle.judge.specs.CaseRows.{standing_in}
use Rattle.cancellation.specs.Chosen.{those, dated_in, replaces}
use Rattle.cancellation.specs.FileText.{CaseTexts, case_texts, event_on, events_on, records_on}
use Rattle.cancellation.specs.declared.event_text.Value.{Value}
use Rattle.cancellation.specs.declared.event_text.Value.TheVariants.{Day, Number}
use Rattle.cancellation.specs.declared.choice.Choice.{Choice}
use Rattle.cancellation.specs.declared.survey.Extent.{Extent}
use Rattle.cancellation.specs.declared.records.Reached.{Reached}
use Rattle.cancellation.specs.declared.write.NotWritten.{NotWritten}
use Rattle.cancellation.specs.declared.write.NotWritten.TheVariants as refused

-- of the events in these rows, those between two days
abbrev pub chosen_in : List ℕ → (first last : ℕ) → (lo hi : ℕ) → List ℕ
chosen_in reg first last lo hi = those (dated_in first last) (standing_in reg lo hi)

-- the same, as the code holds the rows and the days
abbrev pub chosen_by : Choice → List ℕ
chosen_by c = chosen_in c.reg.now c.first c.last c.lo c.hi

-- the texts that name a case, as the code holds them
abbrev pub texts_of : Texts → CaseTexts
texts_of x = case_texts x.region.now x.asl.now x.date.now x.id.now

-- the text of a value, and an attribute that has one
abbrev pub said : Value → List ℕ
said (Day d) = date_text d
said (Number n) = spelled n

abbrev pub valued : List ℕ → Option Value → List Pair
valued n (Some v) = record { key = n; val = said v } ∷ []
valued n None = []

-- a day has a day's bits
abbrev pub IsShort : Value → Type 0
IsShort (Day d) = d < 2 ^ day_bits
IsShort (Number n) = Unit

-- the length of an attribute with a value of so many bytes
abbrev pub attribute_long : List ℕ → Option ℕ → ℕ
attribute_long n (Some v) = length n + v + 4
attribute_long n None = 0

-- an event's text, and the texts of several
abbrev pub event_text : ℕ → List ℕ
event_text e = print_on (event_on e end) []

abbrev pub events_text : List ℕ → List ℕ
events_text es = print_on (events_on es) []

-- what stands before a record's events, and behind them
abbrev pub head_text : CaseTexts → List ℕ
head_text x =
    bytes "<Assistenza><Trasmissione tipo=\"C\"></Trasmissione><Erogatore><CodiceRegione>" ++ (x.region ++
    (bytes "</CodiceRegione><CodiceASL>" ++ (x.asl ++
    (bytes "</CodiceASL></Erogatore><Eventi><PresaInCarico data=\"" ++ (x.date ++
    (bytes "\"><Id_Rec>" ++ (x.id ++ bytes "</Id_Rec></PresaInCarico>")))))))

abbrev pub tail_text : List ℕ
tail_text = bytes "</Eventi></Assistenza>"

-- the records of several shares
abbrev pub records_text : CaseTexts → List (List ℕ) → List ℕ
records_text x rs = print_on (records_on x rs) []

-- those are how many, have so many bytes of text, and whether one is a Rivalutazione with conferma 2. (`small` is said so that a caller's proof finds it.)
pub record Surveyed (es : List ℕ) (r : Extent) : Type 0 where
  pub events : r.events ≡ length es
  pub bytes : r.bytes ≡ length (events_text es)
  pub replaced : r.replaced ≡ any replaces es
  pub small : r.bytes ≤ 256 * r.events

-- the event e was surveyed after those that gave s
pub record OneMore (s : Extent) (e : ℕ) (r : Extent) : Type 0 where
  pub events : r.events ≡ s.events + 1
  pub bytes : r.bytes ≡ s.bytes + length (event_text e)
  pub replaced : r.replaced ≡ (s.replaced || replaces e)
  pub small : r.bytes ≤ 256 * r.events

-- at most 128 of the events from a row on were put, and the row from which on the others are
pub record PutShare (reg : List ℕ) (first last lo hi : ℕ) (at : ℕ) (before after : List ℕ) (text : List ℕ → List ℕ) (r : Reached) : Type 0 where
  pub put : Put at (text (take most_events (chosen_in reg first last lo hi))) before after r.at
  pub low : lo ≤ r.row
  pub high : r.row ≤ hi
  pub rest : chosen_in reg first last r.row hi ≡ drop most_events (chosen_in reg first last lo hi)

-- the same, of the rows as the code holds them
abbrev pub PutsShare : Choice → (at : ℕ) (before after : List ℕ) (text : List ℕ → List ℕ) → Reached → Type 0
PutsShare c at before after text r = PutShare c.reg.now c.first c.last c.lo c.hi at before after text r

-- the answer to a refusal, and that of the call with the file's length
abbrev pub number_of : NotWritten → ℕ
number_of refused.NoPeriod = 1
number_of refused.Unsound = 3
number_of refused.Nowhere = 30
number_of refused.Replaces = 31
number_of refused.NoEvent = 32
number_of refused.TooShort = 33

abbrev pub answer_of : Result ℕ NotWritten → ℕ
answer_of (Ok n) = 0
answer_of (Err e) = number_of e

abbrev pub length_of : Result ℕ NotWritten → ℕ
length_of (Ok n) = n
length_of (Err e) = 0
