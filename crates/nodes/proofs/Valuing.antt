-- The value of an attribute, by a loop over a tag's attributes.
use Prim.Native.Nat.{ℕ}
use mathlib.Core.Path.{◌≡◌, refl, sym, ◌∙◌}
use mathlib.Core.Bool.{Bool, true, false}
use mathlib.Core.List.{List, [], ◌∷◌}
use Rattle.std.specs.Prelude.{Option, Some, None}
use Rattle.laws.specs.Lists.{any, same}
use Rattle.laws.specs.Loop.Step.{stop, next}
use Rattle.markup.specs.NamesAndValues.{Read}
use Rattle.markup.specs.NamesAndValues.Read.{refused, read}
use Rattle.markup.specs.Tags.{Pair, Attributes, ending, before, attributes_step, attributes}
use Rattle.markup.specs.View.{part, pair}
use Rattle.markup.specs.declared.Attribute.{Attribute}
use Rattle.reading.proofs.Cut.{never}
use Rattle.laws.proofs.Fuel.{loop-next, loop-stop}
use Rattle.reading.proofs.Tags.{attributes_less}
use Rattle.nodes.specs.Lookup.{value_in}
use Rattle.nodes.specs.Stands.{Valued}
use Rattle.nodes.specs.declared.Span.{Span}

-- P holds of the attributes that are read from l on
abbrev pub OfPairs : (List Pair → Type 0) → List ℕ → Type 0
OfPairs P l = (a : Attributes) (m : List ℕ) → attributes l ≡ read a m → P a.pairs

module _ (P : List Pair → Type 0) (l : List ℕ) where
  pub of_done : (b : Bool) (k : List ℕ) → stop (read (ending b) k) ≡ attributes_step l → P [] → OfPairs P l
  unfolding attributes
  of_done b k e p a m h = let f = sym (loop-stop refused attributes_step attributes_less (sym e)) ∙ h in let j : ending b ≡ a = cc in rw (← j) p

  pub of_refused : stop refused ≡ attributes_step l → OfPairs P l
  unfolding attributes
  of_refused e a m h = let f = sym (loop-stop refused attributes_step attributes_less (sym e)) ∙ h in never cc

  pub of_next : {p : Pair} {k : List ℕ} → next (before p) k ≡ attributes_step l → OfPairs (λ ps. P (p ∷ ps)) k → OfPairs P l
  unfolding attributes
  of_next {p} {k} e g a m h = go (attributes k) refl (sym (loop-next refused attributes_step attributes_less (sym e)) ∙ h)
    where
      go : (r : Read Attributes) → attributes k ≡ r → before p r ≡ read a m → P a.pairs
      go refused i e = never cc
      go (read c n) i e = let j : record { pairs = p ∷ c.pairs; shut = c.shut } ≡ a = cc in rw (← j) (g c n i)

module _ (s x : List ℕ) where
  pub valued_none : Valued s x [] None
  unfolding value_in any
  valued_none = (refl, refl)

  pub valued_here : (a : Attribute) (ps : List Pair) → true ≡ same x (part s a.name a.name_end) → Valued s x (pair s a ∷ ps) (Some (record { start = a.value; end = a.value_end }))
  unfolding value_in any
  valued_here a ps e = (rw (← e), rw (← e))

  -- past another attribute
  pub valued_on : (p : Pair) (ps : List Pair) (r : Option Span) → false ≡ same x p.key → Valued s x ps r → Valued s x (p ∷ ps) r
  unfolding value_in any
  valued_on p ps (Some v) h k = rw (← h) k
  valued_on p ps None h k = rw (← h) k
