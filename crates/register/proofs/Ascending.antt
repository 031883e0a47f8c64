-- V5, "Keys ascend strictly", as a test and as the model's fact; parts of what ascends.
use Prim.Native.Nat.{ℕ, suc, ◌-◌, ◌≤◌}
use mathlib.Core.Path.{◌≡◌, refl}
use mathlib.Core.Bool.{true}
use mathlib.Core.List.{[], ◌∷◌, ◌++◌}
use native.Mathlib.Omega.{arith}
use lib.Dec.{ltb}
use borrow.Author.Tests.{ltb-true, lt-ltb}
use Rattle.laws.specs.Lists.{all}
use Rattle.laws.proofs.Truth.{and_left, and_right}
use Rattle.laws.proofs.Every.{Every, every_map, all_told, all_tell, and_tell}
use Rattle.model.specs.Map.{Row, Map, Asc}
use Rattle.model.proofs.MapLaws.{asc_weaken}
use Rattle.register.specs.State.{from}
use Rattle.register.specs.Sound.{ascending}
use Rattle.register.proofs.From.{from_cut}

-- keys that ascend are above the first
asc_above : (b : ℕ) (m : Map ℕ) → Asc b m → Every (λ s. b ≤ s.key) m
unfolding Asc
asc_above b [] h = tt
asc_above b (r ∷ m) h = (h.0, every_map m (λ s k. omega arith) (asc_above (suc r.key) m h.1))

-- what ascends, and begins at b or above
asc_raise : (b : ℕ) (m : Map ℕ) → Asc 0 m → Every (λ s. b ≤ s.key) m → Asc b m
unfolding Asc
asc_raise b [] h g = tt
asc_raise b (r ∷ m) h g = (g.0, h.1)

pub asc_told : (m : Map ℕ) → ascending m ≡ true → Asc 0 m
unfolding ascending Asc
asc_told [] e = tt
asc_told (r ∷ m) e = (
  omega arith,
  asc_raise (suc r.key) m (asc_told m (and_right (all (λ s. ltb r.key s.key) m) _ e))
      (every_map m (λ s k. ltb-true r.key s.key k) (all_told (λ s. ltb r.key s.key) m (and_left _ (ascending m) e))),
)

pub asc_tell : (b : ℕ) (m : Map ℕ) → Asc b m → ascending m ≡ true
unfolding ascending Asc
asc_tell b [] h = refl
asc_tell b (r ∷ m) h =
    and_tell (all (λ s. ltb r.key s.key) m) (ascending m)
    (all_tell (λ s. ltb r.key s.key) m (every_map m (λ s k. lt-ltb r.key s.key k) (asc_above (suc r.key) m h.1)))
    (asc_tell (suc r.key) m h.1)

-- ---- parts

asc_right : (b : ℕ) (us vs : Map ℕ) → Asc b (us ++ vs) → Asc b vs
unfolding Asc
asc_right b [] vs h = h
asc_right b (u ∷ us) vs h = asc_weaken b (suc u.key) vs (omega arith) (asc_right (suc u.key) us vs h.1)

asc_left : (b : ℕ) (us vs : Map ℕ) → Asc b (us ++ vs) → Asc b us
unfolding Asc
asc_left b [] vs h = tt
asc_left b (u ∷ us) vs h = (h.0, asc_left (suc u.key) us vs h.1)

-- of a walk, the part from i up to e
module _ (lo i e hi : ℕ) (a : lo ≤ i) (b : i ≤ e) (c : e ≤ hi) where
  pub asc_part : (f : ℕ → Row ℕ) → Asc 0 (from f lo (hi - lo)) → Asc 0 (from f i (e - i))
  asc_part f h =
      asc_left 0 (from f i (e - i)) (from f e (hi - e))
      (rw (← from_cut f i e hi b c) (asc_right 0 (from f lo (i - lo)) (from f i (hi - i)) (rw (← from_cut f lo i hi a (omega arith)) h)))
