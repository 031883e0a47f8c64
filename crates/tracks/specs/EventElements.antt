-- How a file words the four kinds of event (SIAD 6.4, 4.6.2), as data.
use Rattle.std.specs.Prelude.{ℕ, Bool, true, false, cond, List, [], ◌∷◌}
use Rattle.laws.specs.Lists.{same, bytes}
use Rattle.codes.specs.CodesAndCharacters.{revaluation, service, suspension, conclusion}
use Rattle.markup.specs.Elements.{Tree}
use Rattle.tracks.specs.declared.wordings.Wording.{Wording as Held}
use Rattle.nodes.specs.Lookup.{child_of, attr_of, has_attr, text_of}

-- an event's element and the attributes of its fields; a code may be a child's text instead; a kind lacks the fields whose names are empty
pub record Wording : Type 0 where
  pub kind : ℕ
  pub element : List ℕ
  pub date : List ℕ
  pub end : List ℕ
  pub child : Bool
  pub code : List ℕ
  pub accesses : List ℕ
  pub conferma : List ℕ

abbrev pub rivalutazione : Wording
rivalutazione =
    record { kind = revaluation; element = bytes "Rivalutazione"; date = bytes "data"; end = []; child = false; code = bytes "motivo"; accesses = []; conferma = bytes "confermaPrecedente" }

abbrev pub erogazione : Wording
erogazione =
    record { kind = service; element = bytes "Erogazione"; date = bytes "data"; end = []; child = true; code = bytes "TipoOperatore"; accesses = bytes "numAccessi"; conferma = [] }

abbrev pub sospensione : Wording
sospensione =
    record { kind = suspension; element = bytes "Sospensione"; date = bytes "dataInizio"; end = bytes "dataFine"; child = true; code = bytes "Motivazione"; accesses = []; conferma = [] }

abbrev pub conclusione : Wording
conclusione =
    record { kind = conclusion; element = bytes "Conclusione"; date = bytes "dataAD"; end = []; child = true; code = bytes "Motivazione"; accesses = []; conferma = [] }

-- in the order of their numbers
abbrev pub wordings : List Wording
wordings = rivalutazione ∷ erogazione ∷ sospensione ∷ conclusione ∷ []

-- the wording that an element's name has; any, where it has none
unfoldable pub wording_in : List Wording → List ℕ → Wording
wording_in [] x = conclusione
wording_in (w ∷ ws) x = cond (same w.element x) w (wording_in ws x)

-- the text of an attribute, and whether it stands there; of an empty name none does
abbrev pub value_at : List ℕ → Tree → List ℕ
value_at [] t = []
value_at (b ∷ x) t = attr_of (b ∷ x) t

abbrev pub stands_at : List ℕ → Tree → Bool
stands_at [] t = false
stands_at (b ∷ x) t = has_attr (b ∷ x) t

-- the text of a child, or of an attribute
abbrev pub text_at : Bool → List ℕ → Tree → List ℕ
text_at child x t = cond child (text_of (child_of x t)) (value_at x t)

-- a wording of the names that the code holds
abbrev pub wording : (kind : ℕ) → (element date end : List ℕ) → (child : Bool) → (code accesses conferma : List ℕ) → Wording
wording kind element date end child code accesses conferma =
    record { kind = kind; element = element; date = date; end = end; child = child; code = code; accesses = accesses; conferma = conferma }

-- a wording as the code holds it
abbrev pub worded_by : Held → Wording
worded_by w = wording w.kind w.element.now w.date.now w.end.now w.child w.code.now w.accesses.now w.conferma.now
