-- What the code that reads a record requires: its texts are of their types, as those of a record without a fault are (RULES.md, 6 Answers for a file: 6
-- comes before any record is read).
use Rattle.std.specs.Prelude.{ℕ, ◌≤◌, ◌<◌, ◌≡◌, true, List, [], ◌∷◌, drop}
use Rattle.laws.specs.Decimal.{is_digit, decimal}
use Rattle.laws.specs.Lists.{all, same}
use Rattle.codes.specs.CodesAndCharacters.{revaluation}
use Rattle.days.specs.Dates.{is_date}
use Rattle.markup.specs.Elements.{Tree}
use Rattle.nodes.specs.Lookup.{attr_of, text_of}
use Rattle.nodes.specs.Stands.{Stands}
use Rattle.nodes.specs.declared.Node.{Node}
use Rattle.rows.specs.Packing.{each, Fit}
use Rattle.home_care.specs.Row.{char_bits}
use Rattle.home_care.specs.Record.{padded}
use Rattle.home_care.specs.Allowed.{event_allowed}
use Rattle.tracks.specs.EventElements.{Wording, wordings, value_at, stands_at, text_at}
use Rattle.tracks.specs.RecordFields.{◌▹◌, main_of, event_by}

-- an element stands where the code holds it, and something is so of it
abbrev pub Found : List ℕ → Node → (Tree → Type 0) → Type 0
Found s n p = (t : Tree) × Stands n.levels (drop n.at s) t × p t

-- digits that write a number below 10,000; a text that is missing has none, and its number is 0
pub record IsNumber (t : List ℕ) : Type 0 where
  pub digits : all is_digit t ≡ true
  pub small : decimal t < 10000

-- a scale up to 3; missing, it is 0
pub record IsScale (t : List ℕ) : Type 0 where
  pub number : IsNumber t
  pub most : decimal t ≤ 3

-- the six scales of a Valutazione
pub record Scaled (t : Tree) : Type 0 where
  pub autonomy : IsScale (text_of (t ▹ "Autonomia"))
  pub mobility : IsScale (text_of (t ▹ "GradoMobilita"))
  pub cognitive : IsScale (text_of (t ▹ "Disturbi" ▹ "Cognitivi"))
  pub behaviour : IsScale (text_of (t ▹ "Disturbi" ▹ "Comportamentali"))
  pub support : IsScale (text_of (t ▹ "SupportoSociale"))
  pub infection : IsScale (text_of (t ▹ "RischioInfettivo"))

-- a Valutazione of which an evaluation is kept: its scales, and a Prevalente of characters of 7 bits (R7)
pub record Evaluable (t : Tree) : Type 0 where
  pub scaled : Scaled t
  pub main : Fit (each char_bits (padded (main_of t)))

-- an event as its kind is worded. S18: "Every date is a date by D3", the numbers are of digits, and the fields those of an event that is allowed;
-- a Rivalutazione's Valutazione, even a missing one, has what is kept of it
pub record Worded (w : Wording) (t : Tree) : Type 0 where
  pub dated : is_date (attr_of w.date t) ≡ true
  pub ended : stands_at w.end t ≡ true → is_date (value_at w.end t) ≡ true
  pub code : IsNumber (text_at w.child w.code t)
  pub accesses : IsNumber (value_at w.accesses t)
  pub conferma : IsNumber (value_at w.conferma t)
  pub allowed : event_allowed (event_by w t) ≡ true
  pub evaluable : w.kind ≡ revaluation → Evaluable (t ▹ "Valutazione")

-- so of each wording
abbrev pub Each : (Wording → Type 0) → List Wording → Type 0
Each q [] = Unit
Each q (w ∷ ws) = q w × Each q ws

-- a child of Eventi: where its name is that of an event, it is worded so
abbrev pub WordedByName : Tree → Type 0
WordedByName t = Each (λ w. same w.element t.named ≡ true → Worded w t) wordings
