-- The text of a cancellation file (RULES.md, 14 A cancellation file; docs/CANCELLATION.md), as the tree that is printed. The tree's own places say nothing:
-- printing gives each element its place (`placed_tree`, reading/specs/Print).
use Rattle.std.specs.Prelude.{ℕ, ◌+◌, ◌-◌, ◌*◌, ◌/◌, Bool, true, cond, not, List, [], ◌∷◌, ◌++◌, eqb, length, take, drop, get_or}
use Rattle.laws.specs.Lists.{bytes}
use Rattle.text.specs.Spelled.{spelled}
use Rattle.days.specs.WrittenDates.{date_text}
use Rattle.markup.specs.Tags.{Pair}
use Rattle.markup.specs.Elements.{Inside, Tree, mk}
use Rattle.markup.specs.Elements.Inside.{end, says, elem}
use Rattle.reading.specs.Print.{print}
use Rattle.schemas.specs.Parts.{most_events}
use Rattle.register.specs.State.{from}
use Rattle.home_care.specs.Row.{never, kind_of, date_of, code_of, end_of, accesses_of, conferma_of}
use Rattle.tracks.specs.EventElements.{Wording, wordings, conclusione}

-- the texts that name a case, as they are lent
pub record CaseTexts : Type 0 where
  pub region : List ℕ
  pub asl : List ℕ
  pub date : List ℕ
  pub id : List ℕ

abbrev pub case_texts : (region asl date id : List ℕ) → CaseTexts
case_texts region asl date id = record { region = region; asl = asl; date = date; id = id }

-- an attribute that stands where the test is passed
abbrev pub given : Bool → List ℕ → List ℕ → List Pair
given b n v = cond b (record { key = n; val = v } ∷ []) []

-- an element with those attributes and what stands in it, before k; one that holds a text
abbrev pub element_on : List ℕ → List Pair → Inside → Inside → Inside
element_on n ps i k = elem 0 n ps i k

abbrev pub text_on : List ℕ → List ℕ → Inside → Inside
text_on n t k = element_on n [] (says t end) k

-- U14: "its date, a code that is an attribute, the end date, numAccessi and confermaPrecedente, each where the row has it"; U15: "Codes and numbers have no
-- leading zeros"
abbrev pub attributes_by : Wording → ℕ → List Pair
attributes_by w e =
    record { key = w.date; val = date_text (date_of e) } ∷
    (given (not w.child) w.code (spelled (code_of e)) ++
    (given (not (eqb (end_of e) never)) w.end (date_text (end_of e)) ++
    (given (not (eqb (accesses_of e) 0)) w.accesses (spelled (accesses_of e)) ++
    given (not (eqb (conferma_of e) 0)) w.conferma (spelled (conferma_of e)))))

-- U14: "a code that is no attribute is the text of a child": an event as its kind is worded, before k
abbrev pub event_worded : Wording → ℕ → Inside → Inside
event_worded w e k = element_on w.element (attributes_by w e) (cond w.child (text_on w.code (spelled (code_of e)) end) end) k

abbrev pub wording_of : ℕ → Wording
wording_of kind = get_or wordings kind conclusione

-- U13: "An event is the element of its kind, worded as Track 2 is read"
abbrev pub event_on : ℕ → Inside → Inside
event_on e k = event_worded (wording_of (kind_of e)) e k

unfoldable pub events_on : List ℕ → Inside
events_on [] = end
events_on (e ∷ es) = event_on e (events_on es)

-- U12: "Trasmissione of type C, Erogatore with the region and the ASL, and Eventi with PresaInCarico, its date and Id_Rec, and the events; the four texts stand as
-- they are lent", before k
abbrev pub record_on : CaseTexts → List ℕ → Inside → Inside
record_on x es k =
    element_on (bytes "Assistenza") []
    (element_on (bytes "Trasmissione") (given true (bytes "tipo") (bytes "C")) end
    (element_on (bytes "Erogatore") [] (text_on (bytes "CodiceRegione") x.region (text_on (bytes "CodiceASL") x.asl end))
    (element_on (bytes "Eventi") []
    (element_on (bytes "PresaInCarico") (given true (bytes "data") x.date) (text_on (bytes "Id_Rec") x.id end) (events_on es))
    end)))
    k

unfoldable pub records_on : CaseTexts → List (List ℕ) → Inside
records_on x [] = end
records_on x (es ∷ rs) = record_on x es (records_on x rs)

-- U11: "128 events to each record but the last"
abbrev pub record_count : ℕ → ℕ
record_count n = (n + (most_events - 1)) / most_events

abbrev pub share_at : List ℕ → ℕ → List ℕ
share_at es i = take most_events (drop (most_events * i) es)

abbrev pub shares : List ℕ → List (List ℕ)
shares es = from (share_at es) 0 (record_count (length es))

-- U10: "one root, FlsAssDom_2, with its records and nothing else"
abbrev pub file_tree : CaseTexts → List ℕ → Tree
file_tree x es = mk 0 (bytes "FlsAssDom_2") [] (records_on x (shares es))

abbrev pub file_text : CaseTexts → List ℕ → List ℕ
file_text x es = print (file_tree x es)
