-- What the tests 23 and 25 to 28 say of an event, of two events one before the other, and of one step of a walk.
use Prim.Native.Nat.{ℕ, suc, ◌+◌, ◌-◌, ◌≤◌, ◌<◌, max}
use mathlib.Core.Path.{◌≡◌, refl, sym, ap}
use mathlib.Core.Bool.{Bool, true, false, cond, not, ◌&&◌, ◌||◌, false≢true}
use mathlib.Core.List.{List, [], ◌∷◌}
use native.Mathlib.Omega.{arith}
use lib.Dec.{eqb, ltb, leb}
use borrow.Author.Tests.{ltb-true, ltb-false, leb-true, leb-false, eqb-true, eqb-false, lt-ltb, le-ltb, le-leb, lt-leb, eq-eqb, ne_eqb, not-true}
use Rattle.laws.proofs.Truth.{and_left, and_right}
use Rattle.laws.proofs.Every.{Every, same_truth, and_tell, not_tell, nand_told, both_false}
use Rattle.home_care.specs.Row.{never, day_bits, kind_bits, event_bits, kind_of, date_of, end_of, event_key_of}
use Rattle.home_care.specs.Anomalies.{is_suspension, is_conclusion, share_day, after_conclusion}
use Rattle.home_care.proofs.EventKeys.{dated, own_rise}

-- the last day that an event names
abbrev pub late : ℕ → ℕ
late e = max (date_of e) (cond (eqb (end_of e) never) 0 (end_of e))

-- 28 by that day
pub after_late : (c e : ℕ) → after_conclusion c e ≡ (is_conclusion c && ltb (date_of c) (late e))
after_late c e = go (eqb (end_of e) never) refl
  where
    day : (d a : ℕ) → ltb d a || false ≡ ltb d (max a 0)
    day d a = same_truth _ _ (λ h. lt-ltb d (max a 0) (either (ltb d a) refl h)) (λ h. rw (lt-ltb d a (omega (arith, ltb-true d (max a 0) h))))
      where
        either : (b : Bool) → ltb d a ≡ b → b || false ≡ true → d < max a 0
        either true e h = omega (arith, ltb-true d a e)
        either false e h = absurd (false≢true h)

    days : (d a b : ℕ) → ltb d a || ltb d b ≡ ltb d (max a b)
    days d a b = go2 (ltb d a) refl (ltb d b) refl
      where
        go2 : (p : Bool) → ltb d a ≡ p → (q : Bool) → ltb d b ≡ q → p || q ≡ ltb d (max a b)
        go2 true e q f = sym (lt-ltb d (max a b) (omega (arith, ltb-true d a e)))
        go2 false e true f = sym (lt-ltb d (max a b) (omega (arith, ltb-true d b f)))
        go2 false e false f = sym (le-ltb d (max a b) (omega (arith, ltb-false d a e, ltb-false d b f)))

    go : (b : Bool) → eqb (end_of e) never ≡ b → after_conclusion c e ≡ (is_conclusion c && ltb (date_of c) (late e))
    go true h = rw h (ap (λ (b : Bool). is_conclusion c && b) (day (date_of c) (date_of e)))
    go false h = rw h (ap (λ (b : Bool). is_conclusion c && b) (days (date_of c) (date_of e) (end_of e)))

-- what the code asks of an event: the rules' tests of it, of it and the event p before it, and of the latest day m so far
abbrev pub fits : ℕ → ℕ → ℕ → ℕ → Bool
fits t p m e =
    leb t (date_of e)
    && (not (is_suspension e && ltb (end_of e) (date_of e))
    && (not (share_day p e) && (not (is_conclusion p && is_conclusion e) && not (is_conclusion e && ltb (date_of e) m))))

unfoldable pub passes : ℕ → ℕ → ℕ → List ℕ → Bool
passes t p m [] = true
passes t p m (e ∷ es) = fits t p m e && passes t e (max m (late e)) es

-- ascending keys, from b on; of each event, that its kind is one, and no end but a suspension's
unfoldable pub Rising : ℕ → List ℕ → Type 0
Rising b [] = Unit {0}
Rising b (e ∷ es) = (b ≤ event_key_of e) × Rising (suc (event_key_of e)) es

pub record Sane (e : ℕ) : Type 0 where
  pub kind : kind_of e < 4
  pub end : kind_of e ≡ 3 → end_of e ≡ never

-- ---- the same in facts

pub record Alone (t e : ℕ) : Type 0 where
  pub dated : t ≤ date_of e
  pub ends : kind_of e ≡ 2 → date_of e ≤ end_of e

-- an event a before an event b
pub record Apart (a b : ℕ) : Type 0 where
  pub days : kind_of a ≡ 2 → kind_of b ≡ 2 → end_of a < date_of b
  pub single : kind_of a ≡ 3 → kind_of b ≡ 3 → ⊥
  pub last : kind_of b ≡ 3 → late a ≤ date_of b

unfoldable pub Free : ℕ → List ℕ → Type 0
Free t [] = Unit {0}
Free t (e ∷ es) = Alone t e × Every (Apart e) es × Free t es

-- an event e after the event p and the latest day m
pub record Next (p m e : ℕ) : Type 0 where
  pub days : kind_of p ≡ 2 → kind_of e ≡ 2 → end_of p < date_of e
  pub single : kind_of p ≡ 3 → kind_of e ≡ 3 → ⊥
  pub last : kind_of e ≡ 3 → m ≤ date_of e

-- ---- tests and facts

-- kinds, and days within a kind, do not fall as keys rise
pub dates_rise : (a b : ℕ) → event_key_of a < event_key_of b → dated a ≤ dated b
dates_rise a b h = let k = own_rise a b (event_bits - (kind_bits + day_bits)) h in omega arith

pub share_told : (a b : ℕ) → event_key_of a < event_key_of b → (kind_of b ≡ 2 → date_of b ≤ end_of b) → share_day a b ≡ false → kind_of a ≡ 2 → kind_of b ≡ 2 → end_of a < date_of b
share_told a b o h s p q =
    let g = h q in
    let d = dates_rise a b o in
    let f : leb (date_of b) (end_of a) ≡ false =
    nand_told (leb (date_of a) (end_of b)) (leb (date_of b) (end_of a)) (not_tell _ (rw (eq-eqb (kind_of a) 2 p, eq-eqb (kind_of b) 2 q) at s)) (le-leb (date_of a) (end_of b) (omega arith)) in
    leb-false (date_of b) (end_of a) f

pub share_tell : (a b : ℕ) → (kind_of a ≡ 2 → kind_of b ≡ 2 → end_of a < date_of b) → share_day a b ≡ false
share_tell a b h =
    both_false (is_suspension a && is_suspension b) _ (λ s.
    both_false (leb (date_of a) (end_of b)) (leb (date_of b) (end_of a)) (λ g.
    lt-leb (date_of b) (end_of a) (h (eqb-true (kind_of a) 2 (and_left _ (is_suspension b) s)) (eqb-true (kind_of b) 2 (and_right (is_suspension a) _ s)))))

pub ends_told : (e : ℕ) → is_suspension e && ltb (end_of e) (date_of e) ≡ false → kind_of e ≡ 2 → date_of e ≤ end_of e
ends_told e h k = ltb-false (end_of e) (date_of e) (nand_told (is_suspension e) _ (not_tell _ h) (eq-eqb (kind_of e) 2 k))

pub ends_tell : (e : ℕ) → (kind_of e ≡ 2 → date_of e ≤ end_of e) → is_suspension e && ltb (end_of e) (date_of e) ≡ false
ends_tell e h = both_false (is_suspension e) _ (λ k. le-ltb (end_of e) (date_of e) (h (eqb-true (kind_of e) 2 k)))

pub single_told : (a b : ℕ) → is_conclusion a && is_conclusion b ≡ false → kind_of a ≡ 3 → kind_of b ≡ 3 → ⊥
single_told a b h p q =
    eqb-false (kind_of b) 3 (nand_told (is_conclusion a) (is_conclusion b) (not_tell _ h) (eq-eqb (kind_of a) 3 p)) q

pub single_tell : (a b : ℕ) → (kind_of a ≡ 3 → kind_of b ≡ 3 → ⊥) → is_conclusion a && is_conclusion b ≡ false
single_tell a b h = both_false (is_conclusion a) (is_conclusion b) (λ k. ne_eqb (kind_of b) 3 (h (eqb-true (kind_of a) 3 k)))

pub last_told : (c m : ℕ) → is_conclusion c && ltb (date_of c) m ≡ false → kind_of c ≡ 3 → m ≤ date_of c
last_told c m h k = ltb-false (date_of c) m (nand_told (is_conclusion c) _ (not_tell _ h) (eq-eqb (kind_of c) 3 k))

pub last_tell : (c m : ℕ) → (kind_of c ≡ 3 → m ≤ date_of c) → is_conclusion c && ltb (date_of c) m ≡ false
last_tell c m h = both_false (is_conclusion c) _ (λ k. le-ltb (date_of c) m (h (eqb-true (kind_of c) 3 k)))

-- ---- one step

pub fits_alone : (t p m e : ℕ) → fits t p m e ≡ true → Alone t e
fits_alone t p m e h =
    record {
      dated = leb-true t (date_of e) (and_left (leb t (date_of e)) _ h);
      ends = ends_told e (not-true _ (and_left (not (is_suspension e && ltb (end_of e) (date_of e))) _ (and_right (leb t (date_of e)) _ h)));
    }

pub fits_next : (t p m e : ℕ) → event_key_of p < event_key_of e → fits t p m e ≡ true → Next p m e
fits_next t p m e o h =
    let a = and_right (leb t (date_of e)) _ h in
    let b = and_right (not (is_suspension e && ltb (end_of e) (date_of e))) _ a in
    let d = and_right (not (share_day p e)) _ b in
    record {
      days = share_told p e o (fits_alone t p m e h).ends (not-true _ (and_left (not (share_day p e)) _ b));
      single = single_told p e (not-true _ (and_left (not (is_conclusion p && is_conclusion e)) _ d));
      last = last_told e m (not-true _ (and_right (not (is_conclusion p && is_conclusion e)) _ d));
    }

pub fits_tell : (t p m e : ℕ) → Alone t e → Next p m e → fits t p m e ≡ true
fits_tell t p m e a n =
    and_tell (leb t (date_of e)) _ (le-leb t (date_of e) a.dated)
    (and_tell (not (is_suspension e && ltb (end_of e) (date_of e))) _ (not_tell _ (ends_tell e a.ends))
    (and_tell (not (share_day p e)) _ (not_tell _ (share_tell p e n.days))
    (and_tell (not (is_conclusion p && is_conclusion e)) _ (not_tell _ (single_tell p e n.single)) (not_tell _ (last_tell e m n.last)))))

-- the second after the first, where one stands between them
pub across : (t p m e f : ℕ) → event_key_of p < event_key_of e → Sane e → Alone t e → Next p m e → event_key_of e < event_key_of f → Next e (max m (late e)) f → Next p m f
across t p m e f o s a n q g =
    let d = dates_rise p e o in
    let i = dates_rise e f q in
    record {
      days = λ x y.
          let k : kind_of e ≡ 2 = omega arith in
          let u : end_of p < date_of e = n.days x k in
          let v : end_of e < date_of f = g.days k y in
          let z : date_of e ≤ end_of e = a.ends k in
          omega arith;
      single = λ x y.
          let k : kind_of e ≡ 3 = let u = s.kind in omega arith in
          n.single x k;
      last = λ y. let k = g.last y in omega arith;
    }
