-- What the code's answers say of the input s (view), and where their places lie (ok): within s, past the place `at` of the reading.
use Rattle.std.specs.Prelude.{ℕ, ◌-◌, ◌≤◌, ◌<◌, ◌≡◌, Bool, true, false, List, [], length, drop, take, Option, None, Some}
use Rattle.laws.specs.Loop.{Step}
use Rattle.laws.specs.Loop.Step.{stop, next}
use Rattle.markup.specs.NamesAndValues.{Read, then, name}
use Rattle.markup.specs.NamesAndValues.Read.{refused, read}
use Rattle.markup.specs.Tags.{Pair, Attributes, Tag, attributes, ending, before}
use Rattle.markup.specs.Elements.{Tree, Piece, element, depth}
use Rattle.markup.specs.Elements.Piece.{words, aside, closing, child}
use Rattle.markup.specs.Document.{declaration, misc, in_markup}
use Rattle.markup.specs.declared.Cursor.{Cursor}
use Rattle.markup.specs.declared.Text.{Text}
use Rattle.markup.specs.declared.Attribute.{Attribute}
use Rattle.markup.specs.declared.TagStep.{TagStep}
use Rattle.markup.specs.declared.TagStep.TheVariants as tag_step
use Rattle.markup.specs.declared.Ending.{Ending}
use Rattle.markup.specs.declared.Ending.TheVariants as end
use Rattle.markup.specs.declared.Start.{Start}
use Rattle.markup.specs.declared.Piece.{Piece as PieceRead}
use Rattle.markup.specs.declared.Piece.TheVariants as piece
use Rattle.markup.specs.declared.Misc.{Misc}
use Rattle.markup.specs.declared.Misc.TheVariants as misc_read

-- the bytes from a up to e
abbrev pub part : List ℕ → ℕ → ℕ → List ℕ
part s a e = take (e - a) (drop a s)

-- the part lies within s
abbrev pub held : List ℕ → ℕ → ℕ → Type 0
held s a e = (a ≤ e) × (e ≤ length s)

-- the place e lies past `at`, within s
abbrev pub ahead : List ℕ → ℕ → ℕ → Type 0
ahead s at e = (at < e) × (e ≤ length s)

-- the place e is `at` or lies past it, and no further than the end of s
abbrev pub onward : List ℕ → ℕ → ℕ → Type 0
onward s at e = (at ≤ e) × (e - at ≤ length s - at)

-- n is a name: read alone, it is read whole
abbrev pub WholeName : List ℕ → Type 0
WholeName n = name n ≡ read n []

-- what is left where nothing is kept of what was read
abbrev pub left : {A : Type 0} → Read A → Read Unit
left r = then r (λ _ m. read tt m)

abbrev pub view_move : List ℕ → Option Cursor → Read Unit
view_move s (Some c) = read tt (drop c.at s)
view_move s None = refused

abbrev pub ok_move : List ℕ → ℕ → Option Cursor → Type 0
ok_move s at (Some c) = ahead s at c.at
ok_move s at None = Unit

-- white space and comments may be none
abbrev pub ok_past : List ℕ → ℕ → Option Cursor → Type 0
ok_past s at (Some c) = onward s at c.at
ok_past s at None = Unit

abbrev pub view_got : List ℕ → Option Text → Read (List ℕ)
view_got s (Some t) = read (part s t.start t.end) (drop t.next.at s)
view_got s None = refused

abbrev pub ok_got : List ℕ → ℕ → Option Text → Type 0
ok_got s at (Some t) = (t.start ≤ t.end) × (t.end ≤ t.next.at) × ahead s at t.next.at
ok_got s at None = Unit

abbrev pub pair : List ℕ → Attribute → Pair
pair s a = record { key = part s a.name a.name_end; val = part s a.value a.value_end }

abbrev pub view_attribute : List ℕ → Option Attribute → Read Pair
view_attribute s (Some a) = read (pair s a) (drop a.next.at s)
view_attribute s None = refused

abbrev pub ok_attribute : List ℕ → ℕ → Option Attribute → Type 0
ok_attribute s at (Some a) = held s a.name a.name_end × held s a.value a.value_end × ahead s at a.next.at
ok_attribute s at None = Unit

-- how the attributes end, and what is left
abbrev pub ending_of : Read Attributes → Read Bool
ending_of r = then r (λ a m. read a.shut m)

abbrev pub is_shut : Ending → Bool
is_shut (end.Open c) = false
is_shut (end.Shut c) = true

-- the place after a start tag
abbrev pub past_tag : Ending → ℕ
past_tag (end.Open c) = c.at
past_tag (end.Shut c) = c.at

abbrev pub view_ending : List ℕ → Option Ending → Read Bool
view_ending s (Some e) = read (is_shut e) (drop (past_tag e) s)
view_ending s None = refused

abbrev pub ok_ending : List ℕ → ℕ → Option Ending → Type 0
ok_ending s at (Some e) = ahead s at (past_tag e)
ok_ending s at None = Unit

abbrev pub view_tag_step : List ℕ → Option TagStep → Step (Read Attributes)
view_tag_step s (Some (tag_step.More a)) = next (before (pair s a)) (drop a.next.at s)
view_tag_step s (Some (tag_step.Done e)) = stop (read (ending (is_shut e)) (drop (past_tag e) s))
view_tag_step s None = stop refused

abbrev pub ok_tag_step : List ℕ → ℕ → Option TagStep → Type 0
ok_tag_step s at (Some (tag_step.More a)) = ok_attribute s at (Some a)
ok_tag_step s at (Some (tag_step.Done e)) = ok_ending s at (Some e)
ok_tag_step s at None = Unit

-- b is what f says of the attributes that are read from l on
abbrev pub OfPairs : (List Pair → Bool) → List ℕ → Bool → Type 0
OfPairs f l b = (a : Attributes) (m : List ℕ) → attributes l ≡ read a m → b ≡ f a.pairs

-- the attributes from l on
abbrev pub pairs_in : Read Attributes → List Pair
pairs_in refused = []
pairs_in (read a m) = a.pairs

abbrev pub pairs_of : List ℕ → List Pair
pairs_of l = pairs_in (attributes l)

abbrev pub view_start : List ℕ → Option Start → Read Tag
view_start s (Some t) = read (record { named = part s t.name t.name_end; pairs = pairs_of (drop t.after s); shut = is_shut t.ending }) (drop (past_tag t.ending) s)
view_start s None = refused

abbrev pub ok_start : List ℕ → ℕ → Option Start → Type 0
ok_start s at (Some t) = held s t.name t.name_end × (at < t.after) × ahead s t.after (past_tag t.ending)
ok_start s at None = Unit

-- a child stands at the place of the reading itself
abbrev pub view_piece : List ℕ → ℕ → Option PieceRead → Read Piece
view_piece s at (Some (piece.Words a e)) = read (words (part s a e)) (drop e s)
view_piece s at (Some (piece.Aside c)) = read aside (drop c.at s)
view_piece s at (Some (piece.Close c)) = read closing (drop c.at s)
view_piece s at (Some piece.Kid) = read child (drop at s)
view_piece s at None = refused

abbrev pub ok_piece : List ℕ → ℕ → Option PieceRead → Type 0
ok_piece s at (Some (piece.Words a e)) = (at ≤ a) × (a < e) × (e ≤ length s)
ok_piece s at (Some (piece.Aside c)) = ahead s at c.at
ok_piece s at (Some (piece.Close c)) = ahead s at c.at
ok_piece s at (Some piece.Kid) = Unit
ok_piece s at None = Unit

abbrev pub view_misc : List ℕ → Option Misc → Step (Read Unit)
view_misc s (Some (misc_read.More c)) = next (λ r. r) (drop c.at s)
view_misc s (Some (misc_read.Done c)) = stop (read tt (drop c.at s))
view_misc s None = stop refused

abbrev pub ok_misc : List ℕ → ℕ → Option Misc → Type 0
ok_misc s at (Some (misc_read.More c)) = ahead s at c.at
ok_misc s at (Some (misc_read.Done c)) = onward s at c.at
ok_misc s at None = Unit

-- the root element stands at the place, and nothing is left
abbrev pub view_document : List ℕ → Option Cursor → Read Tree
view_document s (Some c) = then (element depth (drop c.at s)) (λ t _. read t [])
view_document s None = refused

-- F5: the number for each answer
abbrev pub document_answer : Option Cursor → ℕ
document_answer (Some c) = 0
document_answer None = 5

-- the root stands behind the declaration, white space and comments
abbrev pub ok_document : List ℕ → Option Cursor → Type 0
ok_document s (Some c) = (c.at < length s) × (in_markup s ≡ true) × (then (declaration s) (λ _ m. misc m) ≡ read tt (drop c.at s))
ok_document s None = Unit
