use mathlib.Core.Path.{sym, ap, ◌∙◌, subst}
use mathlib.Core.List.{List}
use Prim.Native.Nat.{ℕ}
use Rattle.laws.specs.Decimal.{decimal}
use Rattle.tracks.specs.Typed.{IsNumber}
use Rattle.tracks.proofs.Written.{nameless, named, no_number}
use Rattle.tracks.proofs.fields.attr_number.Goals as goal

pub returns-then-is_empty : goal.returns-then-is_empty
returns-then-is_empty c = λ t h. no_number _ (nameless c.args.x.now t c.if-is_empty.ensures).0

pub number-requires : goal.number-requires
number-requires c =
    let k = c.requires in
    subst IsNumber (sym (c.attr_text.ensures k.0 k.1 ∙ sym (named c.args.x.now k.0 c.if-is_empty.ensures).0)) k.2

pub returns : goal.returns
returns c = λ t h. c.number.ensures ∙ ap (λ (l : List ℕ). decimal l) (c.attr_text.ensures t h ∙ sym (named c.args.x.now t c.if-is_empty.ensures).0)
