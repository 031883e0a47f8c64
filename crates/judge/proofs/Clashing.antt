-- The search for two events that clash: the record's events one by one, each with those after it and with those that stand.
use Prim.Native.Nat.{ℕ, ◌+◌, ◌≤◌, ◌<◌}
use mathlib.Core.Path.{◌≡◌, sym, ap, ◌∙◌}
use mathlib.Core.Bool.{Bool, true, false, not, ◌&&◌, ◌||◌, or-true}
use mathlib.Core.List.{List}
use lib.ListN.{length, drop, get_or, drop_of_length-le}
use Rattle.laws.specs.Lists.{any, some_pair}
use Rattle.laws.proofs.Places.{front}
use Rattle.judge.specs.ByNumber.{clash, key_among}
use Rattle.judge.specs.CaseRows.{standing_in, Settled, Outside}
use Rattle.judge.proofs.Rows.{part_enough}

-- a standing event clashes with a, and is not replaced
abbrev pub unreplaced : (ℕ → ℕ → Bool) → List ℕ → ℕ → ℕ → Bool
unreplaced p es a b = p a b && not (key_among es b)

-- what is left from the record's event i on
abbrev pub fresh_from : (ℕ → ℕ → Bool) → List ℕ → List ℕ → ℕ → Bool
fresh_from p es ms i = some_pair p (drop i es) || any (λ a. any (unreplaced p es a) ms) (drop i es)

module _ (p : ℕ → ℕ → Bool) (es ms : List ℕ) (i : ℕ) (target : Bool) (inv : target ≡ fresh_from p es ms i) where
  pub fresh_end : length es ≤ i → false ≡ target
  unfolding any some_pair
  fresh_end h = sym (inv ∙ rw (drop_of_length-le es h))

  module _ (h : i < length es) where
    abbrev later : Bool
    later = any (p (get_or es i 0)) (drop (i + 1) es)

    abbrev stands : Bool
    stands = any (unreplaced p es (get_or es i 0)) ms

    step : target ≡ ((later || some_pair p (drop (i + 1) es)) || (stands || any (λ a. any (unreplaced p es a) ms) (drop (i + 1) es)))
    unfolding any some_pair
    step = inv ∙ rw (front es i h)

    pub fresh_later : true ≡ later → true ≡ target
    fresh_later e = sym (step ∙ rw (sym e))

    pub fresh_stands : true ≡ stands → true ≡ target
    fresh_stands e = sym (step ∙ rw (sym e) (or-true (later || some_pair p (drop (i + 1) es))))

    pub fresh_next : false ≡ later → false ≡ stands → target ≡ fresh_from p es ms (i + 1)
    fresh_next e f = step ∙ rw (sym e, sym f)

-- with the rows in which a rival can stand for all of the case's rows
module _ (number : ℕ) (es reg : List ℕ) (lo hi i : ℕ) (settled : Settled reg lo hi) (h : i < length es) (target : Bool)
    (inv : target ≡ fresh_from (clash number) es (standing_in reg lo hi) i) (first end : ℕ) (o : Outside (clash number (get_or es i 0)) reg lo hi first end) where
  rivals : any (unreplaced (clash number) es (get_or es i 0)) (standing_in reg lo hi) ≡ any (unreplaced (clash number) es (get_or es i 0)) (standing_in reg first end)
  rivals =
      part_enough (clash number (get_or es i 0)) (unreplaced (clash number) es (get_or es i 0)) reg lo hi first end (λ b f. ap (λ (t : Bool). t && not (key_among es b)) f) o settled

  pub rival_stands : true ≡ any (unreplaced (clash number) es (get_or es i 0)) (standing_in reg first end) → true ≡ target
  rival_stands e = fresh_stands (clash number) es (standing_in reg lo hi) i target inv h (e ∙ sym rivals)

  pub no_rival : false ≡ any (clash number (get_or es i 0)) (drop (i + 1) es) → false ≡ any (unreplaced (clash number) es (get_or es i 0)) (standing_in reg first end) →
      target ≡ fresh_from (clash number) es (standing_in reg lo hi) (i + 1)
  no_rival e f = fresh_next (clash number) es (standing_in reg lo hi) i target inv h e (f ∙ sym rivals)
