-- What the code's answers say.
use Rattle.std.specs.Prelude.{ℕ, ◌+◌, ◌≤◌, List, length, drop, Option, Some, None, Result, Ok, Err}
use Rattle.line.specs.Line.{Read, none, read, Line, other, line, Request, prints_line, prints_long, takes}
use Rattle.line.specs.declared.Number.{Number}
use Rattle.line.specs.declared.Request.{Request as Asked}
use Rattle.line.specs.declared.Refusal.{Refusal}
use Rattle.line.specs.declared.Refusal.TheVariants as refusal

abbrev pub view_number : List ℕ → Option Number → Read
view_number s (Some n) = read n.value (drop n.next s)
view_number s None = none

-- the number has four digits at most, and the next place lies within the input, after these and the mark
abbrev pub ok_number : List ℕ → ℕ → Option Number → Type 0
ok_number s from (Some n) = (n.value ≤ 9999) × (n.next ≤ from + 5) × (n.next ≤ length s)
ok_number s from None = Unit

abbrev pub view_line : List ℕ → Option Asked → Line
view_line s (Some a) = line a.track a.year a.quarter (drop a.body s)
view_line s None = other

-- a first line has 15 bytes at most, and the submission begins within the input
abbrev pub ok_line : List ℕ → Option Asked → Type 0
ok_line s (Some a) = (a.body ≤ 15) × (a.body ≤ length s)
ok_line s None = Unit

abbrev pub view_asked : List ℕ → Result Asked Refusal → Request
view_asked s (Err refusal.Line) = prints_line
view_asked s (Err refusal.Long) = prints_long
view_asked s (Ok a) = takes a.track a.year a.quarter (drop a.body s)

abbrev pub ok_asked : List ℕ → Result Asked Refusal → Type 0
ok_asked s (Err e) = Unit
ok_asked s (Ok a) = (a.body ≤ 15) × (a.body ≤ length s)
