-- Short files computed: one list of texts with what is answered, one statement.
use Prim.Native.String as string
use mathlib.Core.Path.{◌≡◌, refl}
use mathlib.Core.Bool.{Bool, true, false}
use mathlib.Core.List.{List, [], ◌∷◌}
use Rattle.laws.specs.Lists.{all, any, same, bytes}
use Rattle.laws.specs.Loop.{turns, loop}
use Rattle.markup.specs.Bytes.{run_length}
use Rattle.markup.specs.NamesAndValues.{skip_ws, byte, name, value}
use Rattle.markup.specs.Comments.{comment, dashed, declared}
use Rattle.markup.specs.Tags.{attribute, attributes_step, attributes, differ, tag, end_tag}
use Rattle.markup.specs.Elements.{piece, content, element}
use Rattle.markup.specs.Document.{declares, declaration, misc_step, misc, document, in_markup}

pub record Example : Type 0 where
  pub text : string.String
  pub is : Bool

abbrev ex : string.String → Bool → Example
ex t b = record { text = t; is = b }

abbrev pub examples : List Example
examples =
    ex "" false ∷
    ex "<X/>" true ∷
    ex "<X></X>" true ∷
    ex " <X a='1' b = \"2\" /> <!---->" true ∷
    ex "<X a='1' a='2'/>" false ∷
    ex "<X a='1'b='2'/>" false ∷
    ex "<X></X >" true ∷
    ex "<X></ X>" false ∷
    ex "<X></Y>" false ∷
    ex "<X>]]></X>" true ∷
    ex "<X>&</X>" false ∷
    ex "<!--&--><X/>" false ∷
    ex "<!--> <X/>" false ∷
    ex "<!---> <X/>" false ∷
    ex "<!--->--><X/>" true ∷
    ex "<!--<!--><X/>" false ∷
    ex "<?xml?><X/>" false ∷
    ex "<?xml <?><X/>" false ∷
    ex "<?xml version='1.0'?><X><!-- a --><Y/>t</X>" true ∷
    ex " <?xml ?><X/>" false ∷
    ex "<X/><Y/>" false ∷
    ex "<X" false ∷
    []

abbrev told : List Example → List Bool
told [] = []
told (e ∷ es) = in_markup (bytes e.text) ∷ told es

abbrev said : List Example → List Bool
said [] = []
said (e ∷ es) = e.is ∷ said es

pub examples_hold : told examples ≡ said examples
unfolding in_markup document misc misc_step declaration declares element content piece end_tag tag differ attributes attributes_step attribute value name byte skip_ws comment dashed declared run_length loop turns all any same
examples_hold = refl
