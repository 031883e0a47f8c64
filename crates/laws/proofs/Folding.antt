-- A test of a whole list by a loop with no early way out: all pass, or some do.
use Prim.Native.Nat.{ℕ, ◌+◌, ◌≤◌, ◌<◌}
use mathlib.Core.Path.{◌≡◌, ap, sym, ◌∙◌}
use mathlib.Core.Bool.{Bool, ◌&&◌, ◌||◌, and_assoc, and-true, or_assoc, or-false}
use mathlib.Core.List.{List}
use lib.ListN.{length, drop, get_or, drop_of_length-le}
use Rattle.laws.specs.Lists.{all, any}
use Rattle.laws.proofs.Places.{front, all_step, all_end}

-- what `good` says of the elements passed and the rest of the rest, `target` is
pub fold_step : (p : ℕ → Bool) (l : List ℕ) (i : ℕ) (target good r : Bool) → i < length l → r ≡ p (get_or l i 0)
    → target ≡ (good && all p (drop i l)) → target ≡ ((good && r) && all p (drop (i + 1) l))
fold_step p l i target good r h e inv =
    inv ∙ ap (λ (b : Bool). good && b) (all_step p l i h ∙ ap (λ (b : Bool). b && all p (drop (i + 1) l)) (sym e))
    ∙ sym (and_assoc good r (all p (drop (i + 1) l)))

pub fold_end : (p : ℕ → Bool) (l : List ℕ) (i : ℕ) (target good : Bool) → length l ≤ i → target ≡ (good && all p (drop i l)) → good ≡ target
fold_end p l i target good h inv = sym (inv ∙ ap (λ (b : Bool). good && b) (all_end p l i h) ∙ and-true good)

pub some_step : (p : ℕ → Bool) (l : List ℕ) (i : ℕ) (target found r : Bool) → i < length l → r ≡ p (get_or l i 0)
    → target ≡ (found || any p (drop i l)) → target ≡ ((found || r) || any p (drop (i + 1) l))
unfolding any
some_step p l i target found r h e inv =
    inv ∙ rw (front l i h) (sym (rw e (or_assoc found (p (get_or l i 0)) (any p (drop (i + 1) l)))))

pub some_end : (p : ℕ → Bool) (l : List ℕ) (i : ℕ) (target found : Bool) → length l ≤ i → target ≡ (found || any p (drop i l)) → found ≡ target
unfolding any
some_end p l i target found h inv = sym (inv ∙ rw (drop_of_length-le l h) (or-false found))
