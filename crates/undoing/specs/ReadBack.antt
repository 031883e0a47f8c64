-- A cancellation file as it is read back (RULES.md, U16: "The file is in the markup, of Track 2's shape, its records say exactly the events that it names, and it is
-- never longer than F4 allows").
use Rattle.std.specs.Prelude.{ℕ, ◌+◌, ◌*◌, ◌≤◌, ◌<◌, ◌^◌, ◌≡◌, Bool, true, false, ◌&&◌, List, [], ◌∷◌, map, ltb, length}
use Prim.Native.Char.{code}
use Rattle.laws.specs.Lists.{all, any}
use Rattle.markup.specs.NamesAndValues.Read.{read}
use Rattle.markup.specs.Elements.{Tree}
use Rattle.markup.specs.Document.{document}
use Rattle.reading.specs.Print.{placed_tree}
use Rattle.schema.specs.Shape.{fine, shape_of}
use Rattle.schemas.specs.Schemas.{schema_of}
use Rattle.home_care.specs.Row.{event_bits, event_in, event_key_of}
use Rattle.home_care.specs.Allowed.{event_allowed}
use Rattle.home_care.specs.Anomalies.{t27}
use Rattle.home_care.specs.Record.{Head, Said, Record, events}
use Rattle.tracks.specs.TooMany.{crowded_in}
use Rattle.soundness.specs.Finding.{texts_allowed, key_of_texts}
use Rattle.intake.specs.FileAnswers.{entries_of}
use Rattle.cancellation.specs.Chosen.{replaces}
use Rattle.cancellation.specs.FileText.{CaseTexts, shares, file_tree, file_text}

-- the own keys ascend strictly
unfoldable pub climbing : List ℕ → Bool
climbing [] = true
climbing (e ∷ es) = all (λ f. ltb (event_key_of e) (event_key_of f)) es && climbing es

-- beside a case's row no more stand in a register
abbrev pub most_chosen : ℕ
most_chosen = 4095

-- so many events of at most 101 bytes, in 32 records of 317 besides, and 27 for the root: 423,766
abbrev pub most_cancel_file : ℕ
most_cancel_file = 27 + 317 * 32 + 101 * most_chosen

-- an event's 52 bits, with the values that its kind allows
abbrev pub bits_allowed : ℕ → Bool
bits_allowed e = ltb e (2 ^ event_bits) && event_allowed (event_in e)

-- texts and events as a call that answers 0 has them
pub record Writable (x : CaseTexts) (es : List ℕ) : Type 0 where
  pub texts : texts_allowed x.region x.asl x.date x.id ≡ true
  pub some : 0 < length es
  pub few : length es ≤ most_chosen
  pub allowed : all bits_allowed es ≡ true
  pub confirmed : any replaces es ≡ false
  pub climbs : climbing es ≡ true
  pub concluded : t27 es ≡ false

-- what the records say: type C, the case, and events less_chosen a Valutazione
abbrev pub head_said : CaseTexts → Head
head_said x = record { tipo = code "C"; key = key_of_texts x.region x.asl x.date x.id }

abbrev pub said : ℕ → Said
said e = record { event = e; valued = false; prevalente = []; evaluation = 0 }

abbrev pub record_said : CaseTexts → List ℕ → Record
record_said x es = events (head_said x) (map said es)

abbrev pub records_said : CaseTexts → List ℕ → List Record
records_said x es = map (record_said x) (shares es)

-- the file's tree, with the places that printing gives it
abbrev pub tree_read : CaseTexts → List ℕ → Tree
tree_read x es = placed_tree [] (file_tree x es)

-- what U16 says; `most_cancel_file` is below F4's `longest`
pub record ReadBack (x : CaseTexts) (es : List ℕ) : Type 0 where
  pub reads : document (file_text x es) ≡ read (tree_read x es) []
  pub shaped : shape_of (schema_of 2) (tree_read x es) ≡ fine (length (shares es))
  pub few : crowded_in 2 (tree_read x es) ≡ 0
  pub says : entries_of 2 (tree_read x es) ≡ records_said x es
  pub short : length (file_text x es) ≤ most_cancel_file
