-- Neighbours suffice: a case's events in the order of their keys are free of 23 and 25 to 28 exactly where each fits the one before it and the
-- latest day so far.
use Prim.Native.Nat.{ℕ, suc, ◌≤◌, ◌<◌, max}
use mathlib.Core.Path.{◌≡◌, refl, sym, ◌∙◌}
use mathlib.Core.Bool.{true, false, ◌&&◌, ◌||◌}
use mathlib.Core.List.{List, [], ◌∷◌}
use native.Mathlib.Omega.{arith}
use lib.Dec.{ltb}
use borrow.Author.Tests.{ltb-false, eqb-false, le-ltb, eq-eqb, not-true}
use Rattle.laws.specs.Lists.{any, some_pair}
use Rattle.laws.proofs.Truth.{or_left, or_right, and_left, and_right}
use Rattle.laws.proofs.Every.{Every, every_map, every_both, any_told, any_tell, same_truth, and_tell, or_tell, not_tell}
use Rattle.home_care.specs.Row.{never, kind_of, date_of, end_of, event_key_of}
use Rattle.home_care.specs.Anomalies.{is_suspension, is_conclusion, t23, t25, share_day, t26, t27, after_conclusion, t28}
use Rattle.soundness.specs.Sound.{events_free}
use Rattle.soundness.proofs.EventFacts.{late, after_late, fits, passes, Rising, Sane, Alone, Apart, Free, Next, share_told, share_tell, ends_told, ends_tell, single_told, single_tell, last_told, last_tell, fits_alone, fits_next, fits_tell, across, dates_rise}

-- ---- along the list

-- keys of a rising list are above
above : (b : ℕ) (es : List ℕ) → Rising b es → Every (λ e. b ≤ event_key_of e) es
unfolding Rising
above b [] r = tt
above b (e ∷ es) r = (r.0, every_map es (λ f h. omega arith) (above (suc (event_key_of e)) es r.1))

-- each step fits: each event fits every one before it
all_next : (t p m : ℕ) (es : List ℕ) → Rising (suc (event_key_of p)) es → Every Sane es → passes t p m es ≡ true → Every (Next p m) es
unfolding Rising passes
all_next t p m [] r s h = tt
all_next t p m (e ∷ es) r s h =
    let g = and_left (fits t p m e) (passes t e (max m (late e)) es) h in
    let n = fits_next t p m e r.0 g in
    let a = fits_alone t p m e g in
    let later = all_next t e (max m (late e)) es r.1 s.1 (and_right (fits t p m e) _ h) in
    (n, every_both es (λ f q k. across t p m e f r.0 s.0 a n q k) (above (suc (event_key_of e)) es r.1) later)

free_of : (t b p m : ℕ) (es : List ℕ) → Rising b es → Every Sane es → passes t p m es ≡ true → Free t es
unfolding Rising passes Free
free_of t b p m [] r s h = tt
free_of t b p m (e ∷ es) r s h =
    let g = and_left (fits t p m e) (passes t e (max m (late e)) es) h in
    let k = and_right (fits t p m e) (passes t e (max m (late e)) es) h in
    (fits_alone t p m e g, every_map es (λ f n. record { days = n.days; single = n.single; last = λ y. let l = n.last y in omega arith }) (all_next t e (max m (late e)) es r.1 s.1 k), free_of t (suc (event_key_of e)) e (max m (late e)) es r.1 s.1 k)

passes_of : (t p m : ℕ) (es : List ℕ) → Free t es → Every (Next p m) es → passes t p m es ≡ true
unfolding Free passes
passes_of t p m [] f n = refl
passes_of t p m (e ∷ es) f n =
    and_tell (fits t p m e) _ (fits_tell t p m e f.0 n.0)
    (passes_of t e (max m (late e)) es f.2 (every_both es (λ g a k. record { days = a.days; single = a.single; last = λ y. let i = a.last y in let j = k.last y in omega arith }) f.1 n.1))

-- ---- the rules' tests

-- the five are false
record Tests (t : ℕ) (es : List ℕ) : Type 0 where
  f23 : t23 es ≡ false
  f25 : t25 t es ≡ false
  f26 : t26 es ≡ false
  f27 : t27 es ≡ false
  f28 : t28 es ≡ false

tests_told : (t : ℕ) (es : List ℕ) → events_free t es ≡ true → Tests t es
tests_told t es h =
    let a = not-true (t23 es || (t25 t es || (t26 es || (t27 es || t28 es)))) h in
    let b = or_right (t23 es) (t25 t es || (t26 es || (t27 es || t28 es))) a in
    let c = or_right (t25 t es) (t26 es || (t27 es || t28 es)) b in
    let d = or_right (t26 es) (t27 es || t28 es) c in
    record { f23 = or_left (t23 es) _ a; f25 = or_left (t25 t es) _ b; f26 = or_left (t26 es) _ c; f27 = or_left (t27 es) _ d; f28 = or_right (t27 es) _ d }

tests_tell : (t : ℕ) (es : List ℕ) → Tests t es → events_free t es ≡ true
tests_tell t es h =
    not_tell (t23 es || (t25 t es || (t26 es || (t27 es || t28 es))))
    (or_tell (t23 es) _ h.f23 (or_tell (t25 t es) _ h.f25 (or_tell (t26 es) _ h.f26 (or_tell (t27 es) _ h.f27 h.f28))))

-- the tests of a longer list
module _ (t e : ℕ) (es : List ℕ) where
  rest : Tests t (e ∷ es) → Tests t es
  unfolding any some_pair
  rest h =
      record {
        f23 = or_right (is_suspension e && ltb (end_of e) (date_of e)) _ h.f23;
        f25 = or_right (ltb (date_of e) t) _ h.f25;
        f26 = or_right (any (share_day e) es) _ h.f26;
        f27 = or_right (any (λ b. is_conclusion e && is_conclusion b) es) _ h.f27;
        f28 = any_tell _ es (every_map es (λ c k. or_right (after_conclusion c e) _ k) (any_told _ es (or_right (any (after_conclusion e) (e ∷ es)) _ h.f28)));
      }

  alone : Tests t (e ∷ es) → Alone t e
  unfolding any
  alone h =
      record {
        dated = ltb-false (date_of e) t (or_left (ltb (date_of e) t) _ h.f25);
        ends = ends_told e (or_left (is_suspension e && ltb (end_of e) (date_of e)) _ h.f23);
      }

  -- a later conclusion is after this event
  before_last : Tests t (e ∷ es) → Every (λ c. is_conclusion c && ltb (date_of c) (late e) ≡ false) es
  unfolding any
  before_last h =
      every_map es (λ c k. sym (after_late c e) ∙ or_left (after_conclusion c e) _ k)
      (any_told _ es (or_right (any (after_conclusion e) (e ∷ es)) _ h.f28))

  -- the pairs of this event with the later ones
  pairs : Rising (suc (event_key_of e)) es → Every (Alone t) es → Tests t (e ∷ es) → Every (Apart e) es
  unfolding any some_pair
  pairs r a h =
      let s = any_told (share_day e) es (or_left (any (share_day e) es) _ h.f26) in
      let c = any_told (λ b. is_conclusion e && is_conclusion b) es (or_left (any (λ b. is_conclusion e && is_conclusion b) es) _ h.f27) in
      let o : Every (λ f. (event_key_of e < event_key_of f) × Alone t f) es = every_both es (λ f q k. (q, k)) (above (suc (event_key_of e)) es r) a in
      let d : Every (λ f. (share_day e f ≡ false) × (is_conclusion e && is_conclusion f ≡ false)) es = every_both es (λ f q k. (q, k)) s c in
      let l : Every (λ f. (is_conclusion f && ltb (date_of f) (late e) ≡ false) × (event_key_of e < event_key_of f) × Alone t f) es =
      every_both es (λ f q k. (q, k.0, k.1)) (before_last h) o in
      every_both es (λ f q k. record { days = share_told e f q.1 q.2.ends k.0; single = single_told e f k.1; last = last_told f (late e) q.0 }) l d

  -- and back
  tests_more : Sane e → Rising (suc (event_key_of e)) es → Every Sane es → Alone t e → Every (Apart e) es → Tests t es → Tests t (e ∷ es)
  unfolding any some_pair
  tests_more s r ss a p h =
      let o : Every (λ f. (event_key_of e < event_key_of f) × Sane f) es = every_both es (λ f q k. (q, k)) (above (suc (event_key_of e)) es r) ss in
      record {
        f23 = or_tell (is_suspension e && ltb (end_of e) (date_of e)) _ (ends_tell e a.ends) h.f23;
        f25 = or_tell (ltb (date_of e) t) _ (le-ltb (date_of e) t a.dated) h.f25;
        f26 = or_tell (any (share_day e) es) _ (any_tell _ es (every_map es (λ f k. share_tell e f k.days) p)) h.f26;
        f27 = or_tell (any (λ b. is_conclusion e && is_conclusion b) es) _ (any_tell _ es (every_map es (λ f k. single_tell e f k.single) p)) h.f27;
        f28 = or_tell (any (after_conclusion e) (e ∷ es)) _
            (or_tell (after_conclusion e e) _ (after_late e e ∙ last_tell e (late e) (λ k. own (s.end k)))
            (any_tell _ es (every_both es (λ f q k. after_late e f ∙ last_tell e (late f) (λ x. absurd (k.single x (later x q.0 q.1)))) o p)))
            (any_tell _ es (every_both es (λ c k g. or_tell (after_conclusion c e) _ (after_late c e ∙ last_tell c (late e) k.last) g) p (any_told _ es h.f28)));
      }
    where
      own : end_of e ≡ never → late e ≤ date_of e
      own k = rw (eq-eqb (end_of e) never k) (omega arith)

      later : {f : ℕ} → kind_of e ≡ 3 → event_key_of e < event_key_of f → Sane f → kind_of f ≡ 3
      later {f} x q g = let u = g.kind in let d = dates_rise e f q in omega arith

-- ---- both ways

tests_free : (t : ℕ) (es : List ℕ) → Rising 0 es → Every Sane es → Free t es → Tests t es
unfolding Rising Free any some_pair
tests_free t [] r s f = record { f23 = refl; f25 = refl; f26 = refl; f27 = refl; f28 = refl }
tests_free t (e ∷ es) r s f =
    tests_more t e es s.0 r.1 s.1 f.0 f.1 (tests_free t es (lower (suc (event_key_of e)) es r.1) s.1 f.2)
  where
    lower : (b : ℕ) (es : List ℕ) → Rising b es → Rising 0 es
    lower b [] h = tt
    lower b (f ∷ es) h = (omega arith, h.1)

all_alone : (t : ℕ) (es : List ℕ) → Free t es → Every (Alone t) es
unfolding Free
all_alone t [] f = tt
all_alone t (e ∷ es) f = (f.0, all_alone t es f.2)

free_tests : (t b : ℕ) (es : List ℕ) → Rising b es → Tests t es → Free t es
unfolding Rising Free
free_tests t b [] r h = tt
free_tests t b (e ∷ es) r h =
    let g = free_tests t (suc (event_key_of e)) es r.1 (rest t e es h) in
    (alone t e es h, pairs t e es r.1 (all_alone t es g) h, g)

-- the first event has none before it: 0 stands for one that is neither suspension nor conclusion
start : (t : ℕ) (es : List ℕ) → Free t es → Every (Next 0 0) es
start t es f = every_map es (λ e a. record { days = λ x y. absurd (eqb-false 0 2 refl x); single = λ x y. eqb-false 0 3 refl x; last = λ y. omega arith }) (all_alone t es f)

pub neighbours : (t : ℕ) (es : List ℕ) → Rising 0 es → Every Sane es → events_free t es ≡ passes t 0 0 es
neighbours t es r s =
    same_truth (events_free t es) (passes t 0 0 es)
    (λ h. let f = free_tests t 0 es r (tests_told t es h) in passes_of t 0 0 es f (start t es f))
    (λ h. tests_tell t es (tests_free t es r s (free_of t 0 0 0 es r s h)))
