-- Looking through a list for something, element by element: the rest gives the same as the whole.
use mathlib.Core.Path.{◌≡◌, sym, ap, ◌∙◌}
use mathlib.Core.Bool.{Bool, true, false, ◌||◌}
use mathlib.Core.List.{List, [], ◌∷◌}
use Rattle.laws.specs.Lists.{any}

module _ {A : Type 0} (q : A → Bool) (target : Bool) (xs : List A) (inv : target ≡ any q xs) where
  pub past : xs ≡ [] → false ≡ target
  unfolding any
  past e = sym (inv ∙ ap (any q) e)

  module _ (x : A) (ys : List A) (e : xs ≡ x ∷ ys) (found : Bool) (told : found ≡ q x) where
    step : target ≡ (found || any q ys)
    unfolding any
    step = inv ∙ ap (any q) e ∙ rw (← told)

    pub hit : found ≡ true → true ≡ target
    hit f = sym (step ∙ rw f)

    pub miss : found ≡ false → target ≡ any q ys
    miss f = step ∙ rw f
