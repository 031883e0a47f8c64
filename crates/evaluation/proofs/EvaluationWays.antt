-- Each way out of `evaluation` and of `on_day`.
use Prim.Native.Nat.{ℕ, ◌≤◌, ◌<◌}
use mathlib.Core.Path.{◌≡◌, refl, sym, ap, ◌∙◌}
use mathlib.Core.Bool.{Bool, true, false, cond, not, ◌&&◌, true≢false}
use mathlib.Core.List.{List}
use native.Mathlib.Omega.{arith}
use lib.Dec.{ltb, leb}
use lib.ListN.{length}
use borrow.Author.Tests.{le-leb, lt-leb}
use Rattle.laws.proofs.Truth.{and_left, and_right}
use Rattle.days.specs.Dates.{is_date, day_of}
use Rattle.model.specs.Map.{has, keep}
use Rattle.register.specs.Layout.{row_at}
use Rattle.register.specs.State.{state_of}
use Rattle.home_care.specs.Row.{siad, key_number}
use Rattle.soundness.specs.Sound.{is_sound}
use Rattle.soundness.specs.Finding.{Found, texts_allowed, key_of_texts, found}
use Rattle.std.specs.Prelude.{Err}
use Rattle.soundness.specs.declared.find.Missing.{Missing}
use Rattle.soundness.specs.declared.find.Missing.TheVariants.{Unsound, Nowhere}
use Rattle.soundness.specs.View.{number_of, view_find}
use Rattle.evaluation.specs.InForce.{in_force, fields_of, Evaluated, without, evaluated}
use Rattle.evaluation.specs.View.{StandsAt}

-- what an answer of finding tells of its two tests
abbrev answers : Bool → Bool → ℕ → Found
answers s b q = cond (not s) (record { answer = 3; place = 0 }) (cond b (record { answer = 0; place = q }) (record { answer = 30; place = 0 }))

told_3 : (s b : Bool) (p q : ℕ) → record { answer = 3; place = p } ≡ answers s b q → s ≡ false
told_3 false b p q e = refl
told_3 true true p q e = let n : ◌≡◌ {A = ℕ} 3 0 = ap (λ (f : Found). f.answer) e in absurd (omega arith)
told_3 true false p q e = let n : ◌≡◌ {A = ℕ} 3 30 = ap (λ (f : Found). f.answer) e in absurd (omega arith)

told_30 : (s b : Bool) (p q : ℕ) → record { answer = 30; place = p } ≡ answers s b q → (s ≡ true) × (b ≡ false)
told_30 false b p q e = let n : ◌≡◌ {A = ℕ} 30 3 = ap (λ (f : Found). f.answer) e in absurd (omega arith)
told_30 true true p q e = let n : ◌≡◌ {A = ℕ} 30 0 = ap (λ (f : Found). f.answer) e in absurd (omega arith)
told_30 true false p q e = (refl, refl)

told_0 : (s b : Bool) (p q : ℕ) → record { answer = 0; place = p } ≡ answers s b q → (s ≡ true) × (b ≡ true) × (p ≡ q)
told_0 false b p q e = let n : ◌≡◌ {A = ℕ} 0 3 = ap (λ (f : Found). f.answer) e in absurd (omega arith)
told_0 true true p q e = (refl, refl, ap (λ (f : Found). f.place) e)
told_0 true false p q e = let n : ◌≡◌ {A = ℕ} 0 30 = ap (λ (f : Found). f.answer) e in absurd (omega arith)

-- a test more changes nothing where the first ones fail
and_less : (t h r : Bool) → t && h ≡ false → t && (h && r) ≡ false
and_less true true r e = absurd (true≢false e)
and_less true false r e = refl
and_less false h r e = refl

module _ (reg region asl date id day : List ℕ) where
  abbrev case : ℕ
  case = key_number (key_of_texts region asl date id)

  abbrev allowed : Bool
  allowed = texts_allowed region asl date id

  abbrev stands : Bool
  stands = has case (state_of siad reg).cases

  abbrev spot : ℕ
  spot = row_at siad (length (keep (λ k. ltb k case) (state_of siad reg).cases))

  abbrev wanted : Evaluated
  wanted = evaluated reg region asl date id day

  -- the answer and the fields, from the whole
  pub says : (v : Evaluated) {n : ℕ} {fs : List ℕ} → wanted ≡ v → n ≡ v.answer → fs ≡ v.fields → (n ≡ wanted.answer) × (fs ≡ wanted.fields)
  says v e a f = (a ∙ ap (λ (w : Evaluated). w.answer) (sym e), f ∙ ap (λ (w : Evaluated). w.fields) (sym e))

  -- the register isn't sound
  pub says_3 : record { answer = 3; place = 0 } ≡ found reg region asl date id → wanted ≡ without 3
  unfolding found evaluated
  says_3 e = rw (told_3 (is_sound reg) (allowed && stands) 0 spot e)

  -- no such case stands
  pub says_30 : record { answer = 30; place = 0 } ≡ found reg region asl date id → wanted ≡ without 30
  unfolding found evaluated
  says_30 e =
      let t = told_30 (is_sound reg) (allowed && stands) 0 spot e in
      rw (t.0, and_less allowed stands (is_date day && leb (day_of date) (day_of day)) t.1)

  -- either of the two
  pub says_missing : (m : Missing) → view_find (Err m) ≡ found reg region asl date id → wanted ≡ without (number_of m)
  says_missing Unsound e = says_3 e
  says_missing Nowhere e = says_30 e

  module _ (place : ℕ) (e : record { answer = 0; place = place } ≡ found reg region asl date id) where
    told : (is_sound reg ≡ true) × (allowed && stands ≡ true) × (place ≡ spot)
    unfolding found
    told = told_0 (is_sound reg) (allowed && stands) place spot e

    pub are_allowed : allowed ≡ true
    are_allowed = and_left allowed stands told.1

    it_stands : stands ≡ true
    it_stands = and_right allowed stands told.1

    -- the case of the probe
    pub stands_at : (c : ℕ) → c ≡ case → StandsAt reg c place
    stands_at c k = rw k (record { sound = told.0; stands = it_stands; there = told.2 })

    -- the day isn't one
    pub says_undated : is_date day ≡ false → wanted ≡ without 30
    unfolding evaluated
    says_undated d = rw (told.0, are_allowed, it_stands, d)

    -- it is the day n, and the case was taken in on the day t
    module _ (d : is_date day ≡ true) (n t : ℕ) (en : n ≡ day_of day) (et : t ≡ day_of date) where
      pub says_before : n < t → wanted ≡ without 30
      unfolding evaluated
      says_before l = rw (told.0, are_allowed, it_stands, d, lt-leb (day_of date) (day_of day) (omega arith))

      pub says_fields : (c : ℕ) → c ≡ case → t ≤ n → wanted ≡ record { answer = 0; fields = fields_of (in_force (state_of siad reg) c n) }
      unfolding evaluated
      says_fields c k l = rw (told.0, are_allowed, it_stands, d, le-leb (day_of date) (day_of day) (omega arith), k, en)
