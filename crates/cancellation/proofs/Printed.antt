-- What stands in an element, printed before a text.
use Prim.Native.Nat.{ℕ}
use mathlib.Core.Path.{◌≡◌, sym}
use mathlib.Core.List.{List, [], ◌++◌}
use Rattle.markup.specs.Elements.{Inside}
use Rattle.reading.specs.Print.{print_on}
use Rattle.reading.proofs.Round.{print_append}

-- it is printed alone, and then comes the text
pub print_before : (i : Inside) (r : List ℕ) → print_on i r ≡ print_on i [] ++ r
print_before i r = sym (print_append i [] r)
