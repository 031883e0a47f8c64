-- The answer is 0 exactly where no check holds, and n exactly where the first that holds has the number n.
use Prim.Native.Nat.{ℕ, ◌<◌}
use mathlib.Core.Path.{◌≡◌, refl, sym, ap, ◌∙◌}
use mathlib.Core.Logic.{◌↔◌, ◌≢◌}
use mathlib.Core.Bool.{Bool, true, false, cond}
use mathlib.Core.List.{List, [], ◌∷◌, ◌++◌}
use native.Mathlib.Omega.{arith}
use lib.Dec.{eqb, ltb}
use borrow.Author.Tests.{ltb-true, eqb-false}
use Rattle.laws.proofs.Truth.{and_left, and_right, or_left, or_right}
use Rattle.laws.specs.Lists.{all, any}
use Rattle.model.specs.Checks.{Check, first, NoneHolds, FirstIs, numbered, test_of, among}

module _ {C : Type 0} where
  -- some check of the list holds
  abbrev holds : List (Check C) → C → Bool
  holds ts c = any (λ t. t.holds c) ts

  head_not : (t : Check C) (ts : List (Check C)) (c : C) → NoneHolds (t ∷ ts) c → t.holds c ≡ false
  unfolding any
  head_not t ts c h = or_left (t.holds c) (holds ts c) h

  rest_not : (t : Check C) (ts : List (Check C)) (c : C) → NoneHolds (t ∷ ts) c → NoneHolds ts c
  unfolding any
  rest_not t ts c h = or_right (t.holds c) (holds ts c) h

  both_not : (t : Check C) (ts : List (Check C)) (c : C) → t.holds c ≡ false → NoneHolds ts c → NoneHolds (t ∷ ts) c
  unfolding any
  both_not t ts c e h = simp e h

  pub none_zero : (ts : List (Check C)) (c : C) → NoneHolds ts c → first ts c ≡ 0
  unfolding first
  none_zero [] c h = refl
  none_zero (t ∷ ts) c h = simp (head_not t ts c h) (none_zero ts c (rest_not t ts c h))

  pub zero_none : (ts : List (Check C)) (c : C) → numbered ts ≡ true → first ts c ≡ 0 → NoneHolds ts c
  unfolding first all any
  zero_none [] c m e = refl
  zero_none (t ∷ ts) c m e = go (t.holds c) refl (zero_none ts c (and_right (ltb 0 t.number) (numbered ts) m))
    where
      go : (b : Bool) → t.holds c ≡ b → (first ts c ≡ 0 → NoneHolds ts c) → NoneHolds (t ∷ ts) c
      go true h ih =
          let l : 0 < t.number = ltb-true _ _ (and_left (ltb 0 t.number) (numbered ts) m) in
          let z : t.number ≡ 0 = simp h at e in
          absurd (omega arith)
      go false h ih = both_not t ts c h (ih (simp h at e))

  -- accepted exactly where no named anomaly holds
  pub accepted_iff : (ts : List (Check C)) (c : C) → numbered ts ≡ true → first ts c ≡ 0 ↔ NoneHolds ts c
  accepted_iff ts c m = (zero_none ts c m, none_zero ts c)

  pub refused : (ts : List (Check C)) (c : C) (n : ℕ) → n ≢ 0 → first ts c ≡ n → FirstIs ts c n
  unfolding first any
  refused [] c n z e = absurd (z (sym e))
  refused (t ∷ ts) c n z e = go (t.holds c) refl (refused ts c n z)
    where
      go : (b : Bool) → t.holds c ≡ b → (first ts c ≡ n → FirstIs ts c n) → FirstIs (t ∷ ts) c n
      go true h ih =
          record { before = []; it = t; after = ts; list = refl; number_is = simp h at e; it-holds = h; none_before = refl }
      go false h ih =
          let f : FirstIs ts c n = ih (simp h at e) in
          record {
            before = t ∷ f.before;
            it = f.it;
            after = f.after;
            list = ap (λ (l : List (Check C)). t ∷ l) f.list;
            number_is = f.number_is;
            it-holds = f.it-holds;
            none_before = both_not t f.before c h f.none_before;
          }

  past : (b : List (Check C)) (t : Check C) (a : List (Check C)) (c : C) → NoneHolds b c → t.holds c ≡ true → first (b ++ t ∷ a) c ≡ t.number
  unfolding first
  past [] t a c h e = simp e
  past (x ∷ b) t a c h e = simp (head_not x b c h) (past b t a c (rest_not x b c h) e)

  pub refused_iff : (ts : List (Check C)) (c : C) (n : ℕ) → n ≢ 0 → first ts c ≡ n ↔ FirstIs ts c n
  refused_iff ts c n z = (
    refused ts c n z,
    λ f. ap (λ (l : List (Check C)). first l c) f.list ∙ past f.before f.it f.after c f.none_before f.it-holds ∙ f.number_is,
  )

  -- an accepted record passed the check numbered n
  pub clear : (n : ℕ) (ts : List (Check C)) (c : C) → numbered ts ≡ true → first ts c ≡ 0 → test_of n ts c ≡ false
  clear n ts c m e = go ts (zero_none ts c m e)
    where
      go : (ts : List (Check C)) → NoneHolds ts c → test_of n ts c ≡ false
      go [] h = refl
      go (t ∷ ts) h = pick (eqb n t.number) (go ts (rest_not t ts c h))
        where
          pick : (b : Bool) → test_of n ts c ≡ false → cond b (t.holds c) (test_of n ts c) ≡ false
          pick true ih = head_not t ts c h
          pick false ih = ih

  -- an answer is 0 or the number of a check of the list
  pub only : (n : ℕ) (ts : List (Check C)) (c : C) → n ≢ 0 → among n ts ≡ false → first ts c ≢ n
  unfolding first any
  only n [] c z a e = z (sym e)
  only n (t ∷ ts) c z a e = go (t.holds c) refl (only n ts c z (or_right (eqb n t.number) (among n ts) a))
    where
      go : (b : Bool) → t.holds c ≡ b → (first ts c ≢ n) → ⊥
      go true h ih =
          eqb-false n t.number (or_left (eqb n t.number) (among n ts) a) (sym (simp h at e))
      go false h ih = ih (simp h at e)

-- two lists that agree on each check as long as none before it holds
abbrev pub Agree : {C D : Type 0} → List (Check C) → List (Check D) → C → D → Type 0
Agree [] [] c d = Unit {0}
Agree [] (u ∷ us) c d = ⊥
Agree (t ∷ ts) [] c d = ⊥
Agree (t ∷ ts) (u ∷ us) c d = (t.number ≡ u.number) × (t.holds c ≡ u.holds d) × (t.holds c ≡ false → Agree ts us c d)

pub first_agree : {C D : Type 0} (ts : List (Check C)) (us : List (Check D)) (c : C) (d : D) → Agree ts us c d → first ts c ≡ first us d
unfolding first
first_agree [] [] c d a = refl
first_agree [] (u ∷ us) c d a = absurd a
first_agree (t ∷ ts) [] c d a = absurd a
first_agree (t ∷ ts) (u ∷ us) c d a = go (t.holds c) refl (λ e. first_agree ts us c d (a.2 e))
  where
    go : (b : Bool) → t.holds c ≡ b → (t.holds c ≡ false → first ts c ≡ first us d) →
        cond b t.number (first ts c) ≡ cond (u.holds d) u.number (first us d)
    go true e ih = simp (← a.1, e) a.0
    go false e ih = simp (← a.1, e) (ih e)
