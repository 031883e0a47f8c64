use Prim.Native.Nat.{ℕ}
use mathlib.Core.Path.{sym, ap, ◌∙◌, subst}
use mathlib.Core.List.{List}
use Rattle.laws.specs.Decimal.{decimal}
use Rattle.tracks.specs.Typed.{IsNumber}
use Rattle.tracks.proofs.fields.text_number.Goals as goal

pub number-requires : goal.number-requires
number-requires c = let k = c.requires in subst IsNumber (sym (c.part.ensures ∙ c.text-v.ensures.0 k.0 k.1)) k.2

pub returns : goal.returns
returns c = λ t h. c.number.ensures ∙ ap (λ (l : List ℕ). decimal l) (c.part.ensures ∙ c.text-v.ensures.0 t h)
