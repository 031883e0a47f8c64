-- The fields of a record that is of the shape, by paths on its tree (RULES.md, S23, S27 and R10 to R34).
use Rattle.std.specs.Prelude.{ℕ, Bool, cond, List, [], ◌∷◌, eqb, get_or}
use Prim.Native.String as string
use Rattle.laws.specs.Decimal.{decimal}
use Rattle.laws.specs.Lists.{any, same, bytes}
use Rattle.days.specs.Dates.{day_of}
use Rattle.markup.specs.Elements.{Tree, kids}
use Rattle.nodes.specs.Lookup.{child_of, has_child, attr_of, text_of}
use Rattle.home_care.specs.Record.{Head, padded, Admission, Said, Record, admission, events}
use Rattle.home_care.specs.Row.{Event, never, event_number, evaluation_number, evaluates}
use Rattle.tracks.specs.EventElements.{Wording, wordings, wording_in, value_at, stands_at, text_at}

-- a path of names from an element down
abbrev pub ◌▹◌ : Tree → string.String → Tree
t ▹ x = child_of (bytes x) t

infixl 60 ◌▹◌
-- what both tracks have
abbrev pub head_of : Tree → Head
head_of a =
    record {
      tipo = get_or (attr_of (bytes "tipo") (a ▹ "Trasmissione")) 0 0;
      key =
          record {
            region = decimal (text_of (a ▹ "Erogatore" ▹ "CodiceRegione"));
            asl = text_of (a ▹ "Erogatore" ▹ "CodiceASL");
            taken = day_of (attr_of (bytes "data") (a ▹ "Eventi" ▹ "PresaInCarico"));
            id = text_of (a ▹ "Eventi" ▹ "PresaInCarico" ▹ "Id_Rec");
          };
    }

-- of a Valutazione: the Prevalente as it is written, and the six evaluation fields
abbrev pub main_of : Tree → List ℕ
main_of value = text_of (value ▹ "Patologia" ▹ "Prevalente")

abbrev pub scales_of : Tree → List ℕ
scales_of value =
    decimal (text_of (value ▹ "Autonomia")) ∷ decimal (text_of (value ▹ "GradoMobilita")) ∷
    decimal (text_of (value ▹ "Disturbi" ▹ "Cognitivi")) ∷ decimal (text_of (value ▹ "Disturbi" ▹ "Comportamentali")) ∷
    decimal (text_of (value ▹ "SupportoSociale")) ∷ decimal (text_of (value ▹ "RischioInfettivo")) ∷ []

abbrev pub admission_of : Tree → Admission
admission_of a =
    let person = a ▹ "Assistito" ▹ "DatiAnagrafici" in
    let home = person ▹ "Residenza" in
    let value = a ▹ "Eventi" ▹ "Valutazione" in
    record {
      case =
          record {
            birth = decimal (text_of (person ▹ "AnnoNascita"));
            prevalente = padded (main_of value);
            scales = scales_of value;
          };
      residence =
          record {
            region = text_of (home ▹ "Regione");
            asl = text_of (home ▹ "ASL");
            comune = text_of (home ▹ "Comune");
            stato = text_of (home ▹ "StatoEstero");
          };
    }

-- an event as its kind is worded: what the kind lacks is 0, its end `never`
abbrev pub event_by : Wording → Tree → Event
event_by w t =
    record {
      kind = w.kind;
      date = day_of (attr_of w.date t);
      code = decimal (text_at w.child w.code t);
      end = cond (stands_at w.end t) (day_of (value_at w.end t)) never;
      accesses = decimal (value_at w.accesses t);
      conferma = decimal (value_at w.conferma t);
    }

abbrev pub event_of : Tree → Event
event_of t = event_by (wording_in wordings t.named) t

-- R34: "R32 and R33 are filled with conferma 2; with conferma 1, and in other kinds, they are zero": of an event of those bits
abbrev pub evaluation_for : ℕ → Tree → ℕ
evaluation_for e value =
    cond (evaluates e) (evaluation_number (record { scales = scales_of value; prevalente = padded (main_of value) })) 0

-- an event of those bits, with its Valutazione
abbrev pub said_with : ℕ → Tree → Said
said_with e t =
    record {
      event = e;
      valued = has_child (bytes "Valutazione") t;
      prevalente = main_of (t ▹ "Valutazione");
      evaluation = evaluation_for e (t ▹ "Valutazione");
    }

abbrev pub said_of : Tree → Said
said_of t = said_with (event_number (event_of t)) t

-- S23: "no other element counts"
abbrev pub is_event : Tree → Bool
is_event t = any (λ w. same w.element t.named) wordings

unfoldable pub said_in : List Tree → List Said
said_in [] = []
said_in (t ∷ ts) = cond (is_event t) (said_of t ∷ said_in ts) (said_in ts)

abbrev pub all_said : Tree → List Said
all_said a = said_in (kids (a ▹ "Eventi").inside)

-- a record of Track 1, of Track 2
unfoldable pub record_of : ℕ → Tree → Record
record_of track a = cond (eqb track 1) (admission (head_of a) (admission_of a)) (events (head_of a) (all_said a))
