-- Texts put into the output, and how long they are at most.
use Rattle.std.specs.Prelude.{ℕ, ◌+◌, ◌*◌, ◌≤◌, List, length}
use Rattle.text.specs.Put.{Put}
use Rattle.text.specs.Spelled.{most_digits}
use Rattle.lines.specs.Lines.{answer_bytes}

-- a text of at most so many bytes was put
pub record PutUpTo (most at : ℕ) (text before after : List ℕ) (r : ℕ) : Type 0 where
  pub put : Put at text before after r
  pub short : length text ≤ most

-- the words of a file's line have 37 bytes, and its five numbers have 64 bits
abbrev pub most_file : ℕ
most_file = 37 + 5 * most_digits

-- a record's number and its answer have three digits at most, with a space between and a line feed
abbrev pub most_record : ℕ
most_record = 8

-- the words have 15 bytes, and each count, of two bytes, five digits at most
abbrev pub most_standing : ℕ
most_standing = 15 + 2 * 5

-- the longest output there can be: the file's line, a record's line for each byte of the answer list, and what stands
abbrev pub most_printed : ℕ
most_printed = most_file + most_record * answer_bytes + most_standing
