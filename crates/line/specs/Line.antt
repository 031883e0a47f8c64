-- The program's first line (RULES.md, L1: "track, year and quarter, each 1 to 4 digits (leading zeros are fine), one space between them and a line feed right
-- after, then the submission").
use Rattle.std.specs.Prelude.{ℕ, ◌+◌, Bool, cond, ◌&&◌, List, eqb, ltb, leb, length, take, drop, get_or}
use Rattle.laws.specs.Decimal.{is_digit, decimal}
use Rattle.markup.specs.Bytes.{run_length}

abbrev pub space : ℕ
space = 32

abbrev pub line_feed : ℕ
line_feed = 10

-- what reading a number answers: there is none, or the number with what is left
pub data Read : Type 0 where
  none : Read
  read : ℕ → List ℕ → Read

-- the n digits at the front are "1 to 4" (L1), and the mark stands after them
abbrev pub marked : ℕ → ℕ → List ℕ → Bool
marked mark n l = leb 1 n && (leb n 4 && eqb (get_or l n 0) mark)

abbrev pub cut : ℕ → ℕ → List ℕ → Read
cut mark n l = cond (marked mark n l) (read (decimal (take n l)) (drop (n + 1) l)) none

-- all digits at the front, and the mark
unfoldable pub number_to : ℕ → List ℕ → Read
number_to mark l = cut mark (run_length is_digit l) l

-- L2: "any other first line"; or track, year, quarter and the submission
pub data Line : Type 0 where
  other : Line
  line : (track year quarter : ℕ) (submission : List ℕ) → Line

abbrev pub after_read : Read → (ℕ → List ℕ → Line) → Line
after_read none next = other
after_read (read n l) next = next n l

unfoldable pub first_line : List ℕ → Line
first_line l =
    after_read (number_to space l) (λ track l. after_read (number_to space l) (λ year l. after_read (number_to line_feed l) (λ quarter l. line track year quarter l)))

-- L3: "a submission of more than 49,152 bytes"
abbrev pub most : ℕ
most = 49152

-- what the program does with its input: it prints `line`, or `long`, or takes the submission
pub data Request : Type 0 where
  prints_line : Request
  prints_long : Request
  takes : (track year quarter : ℕ) (submission : List ℕ) → Request

-- L2: "For any other first line .. it prints `line` and no more"; L3: "Else for a submission of more than 49,152 bytes it prints `long` and no more"
abbrev pub by_line : Line → Request
by_line other = prints_line
by_line (line track year quarter submission) = cond (ltb most (length submission)) prints_long (takes track year quarter submission)

unfoldable pub request : List ℕ → Request
request l = by_line (first_line l)
