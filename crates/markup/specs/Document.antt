-- A whole file (RULES.md, 1 The markup taken; F5).
use Rattle.std.specs.Prelude.{ℕ, Bool, true, false, cond, ◌&&◌, List, [], ◌∷◌, eqb, take, drop, get_or}
use Prim.Native.Char.{code}
use Rattle.laws.specs.Lists.{all, same, bytes}
use Rattle.laws.specs.Loop.{Step, loop}
use Rattle.laws.specs.Loop.Step.{stop, next}
use Rattle.markup.specs.Bytes.{in_file, is_ws}
use Rattle.markup.specs.NamesAndValues.{Read, then, skip_ws}
use Rattle.markup.specs.NamesAndValues.Read.{refused, read}
use Rattle.markup.specs.Comments.{dashed, declared}
use Rattle.markup.specs.Elements.{Tree, element, depth}

-- M4: "`<?xml`, at least one byte of white space"
unfoldable pub declares : List ℕ → Bool
declares l = same (take 5 l) (bytes "<?xml") && is_ws (get_or l 5 0)

unfoldable pub declaration : List ℕ → Read Unit
declaration l = cond (declares l) (declared (drop 6 l)) (read tt l)

abbrev pub go_on : Read Unit → Step (Read Unit)
go_on refused = stop refused
go_on (read _ m) = next (λ r. r) m

-- M6: "white space and comments"
abbrev pub misc_at : List ℕ → Step (Read Unit)
misc_at l = cond (eqb (get_or l 0 0) (code "<") && eqb (get_or l 1 0) (code "!")) (go_on (dashed (drop 2 l))) (stop (read tt l))

unfoldable pub misc_step : List ℕ → Step (Read Unit)
misc_step l = misc_at (skip_ws l)

unfoldable pub misc : List ℕ → Read Unit
misc l = loop refused misc_step l

-- M6: "white space and comments, one root element, white space and comments, and the end"
abbrev pub at_end : Tree → Read Unit → Read Tree
at_end t refused = refused
at_end t (read _ []) = read t []
at_end t (read _ (b ∷ l)) = refused

-- the root element, and nothing left
unfoldable pub document : List ℕ → Read Tree
document l =
    cond (all in_file l)
    (then (declaration l) (λ _ m. then (misc m) (λ _ m. then (element depth m) (λ t m. at_end t (misc m)))))
    refused

abbrev pub was_read : {A : Type 0} → Read A → Bool
was_read refused = false
was_read (read a l) = true

-- a file is in the markup; answer 5 is given exactly where it is not
unfoldable pub in_markup : List ℕ → Bool
in_markup l = was_read (document l)
