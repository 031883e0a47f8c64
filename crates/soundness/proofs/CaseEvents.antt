-- A case's events one after the other: each allowed, above the one before it and fitting it, which decides whether they are good together.
use Prim.Native.Nat.{ℕ, suc, ◌+◌, ◌*◌, ◌^◌, max}
use mathlib.Core.Path.{◌≡◌, refl, sym, ◌∙◌, subst}
use mathlib.Core.Bool.{Bool, true, false, ◌&&◌, ◌||◌, false≢true}
use mathlib.Core.List.{[], ◌∷◌, map}
use native.Mathlib.Omega.{arith}
use lib.Dec.{eqb, ltb, leb}
use borrow.Author.Tests.{eqb-true, ne_eqb, leb-true, le-leb}
use Rattle.laws.specs.Lists.{all}
use Rattle.laws.proofs.Truth.{and_left, and_right}
use Rattle.laws.proofs.Every.{Every, all_told, all_tell, same_truth, and_tell}
use Rattle.days.specs.DayNumbers.{day_count}
use Rattle.model.specs.Map.{Row, Map, Asc}
use Rattle.register.specs.Sound.{ascending}
use Rattle.register.proofs.Ascending.{asc_told, asc_tell}
use Rattle.home_care.specs.Row.{never, kind_of, date_of, end_of, event_key_of, event_number_in_wide, event_in, own_bits}
use Rattle.home_care.specs.Allowed.{event_allowed, end_allowed, event_row_allowed_wide}
use Rattle.home_care.proofs.EventKeys.{narrow}
use Rattle.soundness.specs.Sound.{events_free}
use Rattle.soundness.proofs.EventFacts.{fits, late, passes, Rising, Sane}
use Rattle.soundness.proofs.Neighbours.{neighbours}

-- a conclusion has no end
ended : (e : ℕ) → event_allowed (event_in e) ≡ true → kind_of e ≡ 3 → end_of e ≡ never
ended e h k =
    let a : end_allowed (event_in e) ≡ true = and_left (end_allowed (event_in e)) _ (and_right (ltb (date_of e) day_count) _ h) in
    eqb-true (end_of e) never (go (eqb (end_of e) never) refl (rw (ne_eqb (kind_of e) 2 (λ j. omega arith)) at a))
  where
    go : (b : Bool) → eqb (end_of e) never ≡ b → eqb (end_of e) never || false ≡ true → eqb (end_of e) never ≡ true
    go true q a = q
    go false q a = absurd (false≢true (rw q at a))

-- ---- the walk, over rows of w bytes, and what it decides

module _ (w : ℕ) where
  -- the rows of a run pass one by one: with keys from b on, after the event p and the latest day m
  unfoldable pub follow : ℕ → ℕ → ℕ → ℕ → Map ℕ → Bool
  follow t b p m [] = true
  follow t b p m (x ∷ us) =
      (event_row_allowed_wide w x && (leb b (event_key_of (event_number_in_wide w x)) && fits t p m (event_number_in_wide w x)))
      && follow t (suc (event_key_of (event_number_in_wide w x))) (event_number_in_wide w x) (max m (late (event_number_in_wide w x))) us

  record Passed (t b p m : ℕ) (us : Map ℕ) : Type 0 where
    rows : Every (λ r. event_row_allowed_wide w r ≡ true) us
    up : Rising b (map (event_number_in_wide w) us)
    fit : passes t p m (map (event_number_in_wide w) us) ≡ true

  follow_told : (t b p m : ℕ) (us : Map ℕ) → follow t b p m us ≡ true → Passed t b p m us
  unfolding follow Rising passes
  follow_told t b p m [] h = record { rows = tt; up = tt; fit = refl }
  follow_told t b p m (x ∷ us) h =
      let e = event_number_in_wide w x in
      let a = and_left (event_row_allowed_wide w x && (leb b (event_key_of e) && fits t p m e)) _ h in
      let c = and_right (event_row_allowed_wide w x) (leb b (event_key_of e) && fits t p m e) a in
      let r = follow_told t (suc (event_key_of e)) e (max m (late e)) us (and_right (event_row_allowed_wide w x && (leb b (event_key_of e) && fits t p m e)) _ h) in
      record {
        rows = (and_left (event_row_allowed_wide w x) _ a, r.rows);
        up = (leb-true b (event_key_of e) (and_left (leb b (event_key_of e)) _ c), r.up);
        fit = and_tell (fits t p m e) _ (and_right (leb b (event_key_of e)) _ c) r.fit;
      }

  follow_tell : (t b p m : ℕ) (us : Map ℕ) → Passed t b p m us → follow t b p m us ≡ true
  unfolding follow Rising passes
  follow_tell t b p m [] h = refl
  follow_tell t b p m (x ∷ us) h =
      let e = event_number_in_wide w x in
      let f = h.fit in
      and_tell (event_row_allowed_wide w x && (leb b (event_key_of e) && fits t p m e)) _
      (and_tell (event_row_allowed_wide w x) _ h.rows.0 (and_tell (leb b (event_key_of e)) _ (le-leb b (event_key_of e) h.up.0) (and_left (fits t p m e) _ f)))
      (follow_tell t (suc (event_key_of e)) e (max m (late e)) us (record { rows = h.rows.1; up = h.up.1; fit = and_right (fits t p m e) _ f }))

  -- of an event's row: its key is that of the case c and the event's own
  abbrev pub Mine : ℕ → Row ℕ → Type 0
  Mine c r = r.key ≡ c * 2 ^ own_bits + event_key_of (event_number_in_wide w r)

  rising : (c d : ℕ) (m : Map ℕ) → Asc (c * 2 ^ own_bits + d) m → Every (Mine c) m → Rising d (map (event_number_in_wide w) m)
  unfolding Asc Rising
  rising c d [] h g = tt
  rising c d (r ∷ m) h g =
      let o = g.0 in
      let e : suc r.key ≡ c * 2 ^ own_bits + suc (event_key_of (event_number_in_wide w r)) = omega arith in
      (omega arith, rising c (suc (event_key_of (event_number_in_wide w r))) m (subst (λ (z : ℕ). Asc z m) e h.1) g.1)

  begins : (c : ℕ) (m : Map ℕ) → Asc 0 m → Every (Mine c) m → Asc (c * 2 ^ own_bits + 0) m
  unfolding Asc
  begins c [] h g = tt
  begins c (r ∷ m) h g = let o = g.0 in (omega arith, h.1)

  sane : (m : Map ℕ) → Every (λ r. event_row_allowed_wide w r ≡ true) m → Every Sane (map (event_number_in_wide w) m)
  sane [] a = tt
  sane (r ∷ m) a =
      let s = narrow w r in
      (record { kind = omega arith; end = ended (event_number_in_wide w r) (and_left (event_allowed (event_in (event_number_in_wide w r))) _ a.0) }, sane m a.1)

  -- and back
  climbing : (c d : ℕ) (m : Map ℕ) → Rising d (map (event_number_in_wide w) m) → Every (Mine c) m → Asc (c * 2 ^ own_bits + d) m
  unfolding Asc Rising
  climbing c d [] h g = tt
  climbing c d (r ∷ m) h g =
      let o = g.0 in
      let e : c * 2 ^ own_bits + suc (event_key_of (event_number_in_wide w r)) ≡ suc r.key = omega arith in
      let l = h.0 in
      (omega arith, subst (λ (z : ℕ). Asc z m) e (climbing c (suc (event_key_of (event_number_in_wide w r))) m h.1 g.1))

  -- neighbours suffice for a case's rows
  pub follow_is : (c t : ℕ) (us : Map ℕ) → Every (Mine c) us → follow t 0 0 0 us ≡ (all (event_row_allowed_wide w) us && (ascending us && events_free t (map (event_number_in_wide w) us)))
  follow_is c t us g =
      same_truth (follow t 0 0 0 us) (all (event_row_allowed_wide w) us && (ascending us && events_free t (map (event_number_in_wide w) us)))
      (λ h.
      let f = follow_told t 0 0 0 us h in
      and_tell (all (event_row_allowed_wide w) us) _ (all_tell (event_row_allowed_wide w) us f.rows)
      (and_tell (ascending us) _ (asc_tell (c * 2 ^ own_bits + 0) us (climbing c 0 us f.up g)) (neighbours t (map (event_number_in_wide w) us) f.up (sane us f.rows) ∙ f.fit)))
      (λ h.
      let a = all_told (event_row_allowed_wide w) us (and_left (all (event_row_allowed_wide w) us) _ h) in
      let v = and_right (all (event_row_allowed_wide w) us) (ascending us && events_free t (map (event_number_in_wide w) us)) h in
      let r = rising c 0 us (begins c us (asc_told us (and_left (ascending us) _ v)) g) g in
      follow_tell t 0 0 0 us (record { rows = a; up = r; fit = sym (neighbours t (map (event_number_in_wide w) us) r (sane us a)) ∙ and_right (ascending us) _ v }))
