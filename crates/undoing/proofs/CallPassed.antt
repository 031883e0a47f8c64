-- What a call that answers 0 or 33 tells: the period, the register, the case and its events; and what is written with 0.
use Prim.Native.Nat.{ℕ, ◌<◌}
use mathlib.Core.Path.{◌≡◌, refl, ◌∙◌}
use mathlib.Core.Logic.{◌≢◌}
use mathlib.Core.Bool.{Bool, true, false, cond, not, ◌&&◌}
use mathlib.Core.List.{List}
use native.Mathlib.Omega.{arith}
use lib.Dec.{eqb, ltb}
use lib.ListN.{length}
use borrow.Author.Tests.{eqb-true, eqb-false, ltb-true, not-true, not-false}
use Rattle.laws.specs.Lists.{any}
use Rattle.laws.proofs.Truth.{and_left, and_right}
use Rattle.days.specs.Quarters.{is_period, first_day, last_day}
use Rattle.model.specs.Map.{has}
use Rattle.register.specs.State.{state_of}
use Rattle.home_care.specs.Row.{siad}
use Rattle.soundness.specs.Sound.{is_sound}
use Rattle.soundness.specs.Finding.{Found, texts_allowed, found}
use Rattle.cancellation.specs.Chosen.{chosen, replaces}
use Rattle.cancellation.specs.FileText.{CaseTexts, file_text}
use Rattle.cancellation.specs.CancelFile.{Written, case_told, looked_up, unwritten, file_written, of_chosen, of_found, cancel_file}

-- what finding answers, of a register that is sound or not and a case that stands or not
abbrev answer_of : Found → ℕ
answer_of f = f.answer

abbrev looks : (a b : Bool) → ℕ → Found
looks a b n = cond (not a) (record { answer = 3; place = 0 }) (cond b (record { answer = 0; place = n }) (record { answer = 30; place = 0 }))

-- 0: the register is sound, the texts are allowed, and the case stands
found_told : (a b : Bool) (n : ℕ) → answer_of (looks a b n) ≡ 0 → (a ≡ true) × (b ≡ true)
found_told true true n e = (refl, refl)
found_told true false n e = absurd (omega arith)
found_told false b n e = absurd (omega arith)

-- 33 is not among its answers
never_found : (a b : Bool) (n : ℕ) → answer_of (looks a b n) ≢ 33
never_found false b n e = omega arith
never_found true true n e = omega arith
never_found true false n e = omega arith

-- a test with another answer than n did not hold, and the rest decides
passes : (n : ℕ) (b : Bool) (u v : Written) → (b ≡ true → u.answer ≢ n) → (cond b u v).answer ≡ n → (b ≡ false) × (cond b u v ≡ v) × (v.answer ≡ n)
passes n true u v h e = absurd (h refl e)
passes n false u v h e = (refl, refl, e)

module _ (reg : List ℕ) (x : CaseTexts) (year quarter : ℕ) where
  -- the events that the file names, and the file
  abbrev pub named : List ℕ
  named = chosen reg (case_told x) (first_day year quarter) (last_day year quarter)

  abbrev pub named_text : List ℕ
  named_text = file_text x named

  -- no test before 33 held
  pub record CallPassed : Type 0 where
    pub period : is_period year quarter ≡ true
    pub sound : is_sound reg ≡ true
    pub texts : texts_allowed x.region x.asl x.date x.id ≡ true
    pub stands : has (case_told x) (state_of siad reg).cases ≡ true
    pub confirmed : any replaces named ≡ false
    pub some : 0 < length named

  -- C10: the texts are allowed, and the case stands
  abbrev in_register : Bool
  in_register = texts_allowed x.region x.asl x.date x.id && has (case_told x) (state_of siad reg).cases

  looked : looked_up reg x ≡ 0 → (is_sound reg ≡ true) × (in_register ≡ true)
  unfolding found
  looked e = found_told (is_sound reg) in_register _ e

  never_looked : looked_up reg x ≢ 33
  unfolding found
  never_looked = never_found (is_sound reg) in_register _

  module _ (out : List ℕ) where
    -- what is left of the tests after 31, and after 32
    abbrev after32 : Written
    after32 = cond (ltb (length out) (length named_text)) (unwritten out 33) (file_written out named_text)

    abbrev after31 : Written
    after31 = cond (eqb (length named) 0) (unwritten out 32) after32

    -- an answer that none of the earlier tests gives
    passed_by : (n : ℕ) → 1 ≢ n → (not (eqb (looked_up reg x) 0) ≡ true → looked_up reg x ≢ n) → 31 ≢ n → 32 ≢ n → (cancel_file reg x year quarter out).answer ≡ n →
        CallPassed × (cancel_file reg x year quarter out ≡ after32) × (after32.answer ≡ n)
    unfolding cancel_file
    passed_by n h1 hl h31 h32 e =
        let look : ℕ = looked_up reg x in
        let a = passes n (not (is_period year quarter)) (unwritten out 1) (of_found reg x (first_day year quarter) (last_day year quarter) out) (λ _. h1) e in
        let b = passes n (not (eqb look 0)) (unwritten out look) (of_chosen x named out) hl a.2 in
        let c = passes n (any replaces named) (unwritten out 31) after31 (λ _. h31) b.2 in
        let d = passes n (eqb (length named) 0) (unwritten out 32) after32 (λ _. h32) c.2 in
        let l = looked (eqb-true look 0 (not-false _ b.0)) in
        let some : 0 < length named = let z = eqb-false (length named) 0 d.0 in omega arith in (
          record {
            period = not-false _ a.0;
            sound = l.0;
            texts = and_left (texts_allowed x.region x.asl x.date x.id) _ l.1;
            stands = and_right (texts_allowed x.region x.asl x.date x.id) _ l.1;
            confirmed = c.0;
            some = some;
          },
          a.1 ∙ b.1 ∙ c.1 ∙ d.1,
          d.2,
        )

    -- with 0 every test is passed, and the file is written
    pub call_passed : (cancel_file reg x year quarter out).answer ≡ 0 → CallPassed × (cancel_file reg x year quarter out ≡ file_written out named_text)
    call_passed e =
        let r = passed_by 0 (λ z. omega arith) (λ t z. eqb-false (looked_up reg x) 0 (not-true _ t) z) (λ z. omega arith) (λ z. omega arith) e in
        (r.0, r.1 ∙ (passes 0 (ltb (length out) (length named_text)) (unwritten out 33) (file_written out named_text) (λ _ z. omega arith) r.2).1)

    -- with 33 every other test is, and the file is longer than the output
    pub call_short : (cancel_file reg x year quarter out).answer ≡ 33 → CallPassed × (length out < length named_text)
    call_short e =
        let r = passed_by 33 (λ z. omega arith) (λ _. never_looked) (λ z. omega arith) (λ z. omega arith) e in
        (r.0, go (ltb (length out) (length named_text)) refl r.2)
      where
        go : (b : Bool) → ltb (length out) (length named_text) ≡ b → (cond b (unwritten out 33) (file_written out named_text)).answer ≡ 33 → length out < length named_text
        go true t k = ltb-true (length out) (length named_text) t
        go false t k = absurd (omega arith)
