-- A small tree printed, with its places, and read back.
use Prim.Native.Nat.{ℕ}
use mathlib.Core.Path.{◌≡◌, refl}
use mathlib.Core.List.{[], ◌∷◌}
use native.Mathlib.Omega.{arith}
use Rattle.laws.specs.Lists.{all, any, same, bytes}
use Rattle.markup.specs.NamesAndValues.Read.{read}
use Rattle.markup.specs.Tags.{differ}
use Rattle.markup.specs.Elements.{Tree, depth, mk, alone}
use Rattle.markup.specs.Elements.Inside.{end, says, note, elem}
use Rattle.markup.specs.Document.{document}
use Rattle.reading.specs.Print.{print, placed_tree}
use Rattle.reading.specs.Printable.{Printable, Plain}
use Rattle.reading.proofs.Allowed.{plain_document}

-- an element with an attribute, a text, a comment and a child; z and y are its places
abbrev sample : ℕ → ℕ → Tree
sample z y = mk z (bytes "X") (record { key = bytes "a"; val = bytes "1" } ∷ []) (says (bytes "t") (note (elem y (bytes "Y") [] end end)))

pub sample_printed : print (sample 0 0) ≡ bytes "<X a=\"1\">t<!----><Y></Y></X>"
sample_printed = refl

pub sample_placed : placed_tree [] (sample 0 0) ≡ sample 28 11
sample_placed = refl

sample_printable : Printable depth (sample 0 0)
unfolding all any same differ
sample_printable = (
  record { named = record { starts = refl; bytes = refl }; pairs = (record { starts = refl; bytes = refl }, refl, tt); apart = refl },
  (omega arith, refl, tt, (record { named = record { starts = refl; bytes = refl }; pairs = tt; apart = refl }, tt, tt)),
  tt,
)

sample_plain : Plain (alone (sample 0 0))
unfolding all
sample_plain = ((refl, tt), (refl, (tt, tt, tt)), tt)

pub sample-read : document (bytes "<X a=\"1\">t<!----><Y></Y></X>") ≡ read (sample 28 11) []
sample-read = plain_document (sample 0 0) sample_printable sample_plain
