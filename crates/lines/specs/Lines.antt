-- All that the program prints (RULES.md, 11 The program), as one function of what it reads. L9: "every line ends in a line feed".
use Rattle.std.specs.Prelude.{ℕ, ◌+◌, List, [], ◌∷◌, ◌++◌, take, replicate}
use Prim.Native.String.{String}
use Rattle.laws.specs.Lists.{bytes}
use Rattle.text.specs.Spelled.{spelled}
use Rattle.register.specs.Layout.{cases_held, events_held}
use Rattle.register.specs.RoomAndEmptying.{emptied}
use Rattle.intake.specs.FileAnswers.{Submitted, call_of, submitted}
use Rattle.line.specs.Line.{Request, request}
use Rattle.line.specs.Line.Request.{prints_line, prints_long, takes}

-- a word, and a number in decimal
abbrev pub named : String → ℕ → List ℕ
named word n = bytes word ++ spelled n

-- L5: "`file`, the answer, the record number, and the three counts, each behind its name, `records`, `accepted`, `discarded`"
unfoldable pub file_line : (answer number records accepted discarded : ℕ) → List ℕ
file_line answer number records accepted discarded =
    named "file " answer ++ named " " number ++ named " records " records ++ named " accepted " accepted ++ named " discarded " discarded ++ bytes "\n"

-- L6: "a line for each record: its number and its answer"
unfoldable pub record_line : (number answer : ℕ) → List ℕ
record_line number answer = spelled number ++ named " " answer ++ bytes "\n"

-- of records that are numbered from n on
unfoldable pub record_lines : ℕ → List ℕ → List ℕ
record_lines n [] = []
record_lines n (answer ∷ answers) = record_line n answer ++ record_lines (n + 1) answers

-- L7: "`cases` with the cases standing and `events` with the events standing"
unfoldable pub standing_line : (cases events : ℕ) → List ℕ
standing_line cases events = named "cases " cases ++ named " events " events ++ bytes "\n"

-- a file's lines: its own, those of its records, counted from 1, and that of the register it leaves
unfoldable pub lines_of : Submitted → List ℕ
lines_of v =
    file_line v.answer v.number v.records v.accepted v.discarded
    ++ record_lines 1 (take v.records v.answers)
    ++ standing_line (cases_held v.register) (events_held v.register)

-- L4: "it submits to an emptied register of 14,564 bytes (R is 151) with an answer list of 512 bytes"
unfoldable pub register_bytes : ℕ
register_bytes = 14564

abbrev pub answer_bytes : ℕ
answer_bytes = 512

-- L2: "it prints `line` and no more"; L3: "it prints `long` and no more"
abbrev pub printed_for : Request → List ℕ
printed_for prints_line = bytes "line\n"
printed_for prints_long = bytes "long\n"
printed_for (takes track year quarter submission) =
    lines_of (submitted (call_of submission track year quarter (replicate answer_bytes 0)) (emptied (replicate register_bytes 0)).register)

-- the whole program, from the bytes of its input to those of its output
unfoldable pub printed : List ℕ → List ℕ
printed input = printed_for (request input)
