-- The answer of the lists of checks is that of the chains that the code asks (specs/Asked).
use Prim.Native.Nat.{ℕ, suc, ◌+◌}
use mathlib.Core.Path.{◌≡◌, refl, sym, ap, ◌∙◌}
use mathlib.Core.Bool.{Bool, true, false, cond, not, ◌&&◌, ◌||◌, and-true, or-false}
use mathlib.Core.List.{List, [], ◌∷◌, map}
use native.Mathlib.Omega.{arith}
use lib.Dec.{eqb, ltb}
use lib.ListN.{length}
use Rattle.laws.specs.Lists.{all, any}
use Rattle.model.specs.Map.{has, any_in, all_in}
use Rattle.model.specs.Checks.{first}
use Rattle.model.specs.Transmission.{is_insert, is_cancel}
use Rattle.model.specs.Flow.{State}
use Rattle.register.specs.Sound.{events_of}
use Rattle.home_care.specs.Row.{key_number, siad, event_number_in}
use Rattle.home_care.specs.Anomalies.{zero_written, bad_conferma, Context, out_of_quarter, t11, t12, zero_kept}
use Rattle.home_care.specs.Record.{Head, Admission, Said, admission, events, event_numbers, type_of}
use Rattle.checks.specs.Flow.{event_rows}
use Rattle.checks.specs.CheckOrder.{checks_of}
use Rattle.checks.specs.Readable.{Readable}
use Rattle.checks.proofs.Valid.{Sound}
use Rattle.judge.specs.ByNumber.{wrong}
use Rattle.judge.specs.Asked.{against_standing, answer_admission}
use Rattle.judge.proofs.InOrder.{answer_events}
use Rattle.judge.proofs.Keys.{is22, is14, is15}
use Rattle.judge.proofs.Afterwards.{is25, is26, is27, is28}

-- one check of two chains: the same test, and the same answer where it fails
asks : {a b : Bool} {x y : ℕ} → a ≡ b → (n : ℕ) → (b ≡ false → x ≡ y) → cond a n x ≡ cond b n y
asks {b = true} p n q = rw p
asks {b = false} p n q = rw p (q refl)

length_events : (es : List Said) → length (event_numbers es) ≡ length es
unfolding event_numbers
length_events [] = refl
length_events (e ∷ es) = ap suc (length_events es)

length_rows : (c : ℕ) (es : List Said) → length (event_rows c es) ≡ length (event_numbers es)
unfolding event_rows event_numbers
length_rows c [] = refl
length_rows c (e ∷ es) = ap suc (length_rows c es)

module _ (n : ℕ) (s : State ℕ ℕ) (v : Sound n s) (c : Context) (h : Head) (es : List Said) (r : Readable (events h es)) where
  pub answer_events_lem : first (checks_of c (events h es)) s
      ≡ answer_events c (is_insert (type_of h.tipo)) (is_cancel (type_of h.tipo)) h.key.taken (event_numbers es) (any bad_conferma es) (any zero_written es)
      (has (key_number h.key) s.cases) (length s.cases + length s.events) (map event_number_in (events_of siad (key_number h.key) s.events))
  unfolding first answer_events against_standing any all any_in all_in
  answer_events_lem =
      let k : ℕ = key_number h.key in
      let inserts : Bool = is_insert (type_of h.tipo) in
      let rows : ℕ = length s.cases + length s.events in
      let more : 0 + length (event_rows k es) ≡ length (event_numbers es) = omega (arith, length_rows k es) in
      asks (ap (λ (l : ℕ). eqb l 0) (sym (length_events es))) 20 (λ _.
      asks {a = any (wrong 10 c h.key.taken) (event_numbers es)} refl 10 (λ _.
      asks {a = any bad_conferma es} refl 21 (λ _.
      asks {a = any zero_written es} refl 13 (λ _.
      asks (is22 h es r.1) 22 (λ once.
      asks {a = any (wrong 23 c h.key.taken) (event_numbers es)} refl 23 (λ _.
      asks {a = not (has k s.cases)} refl 24 (λ _.
      asks (ap (λ (b : Bool). inserts && b) (is14 k es r.1 s.events v.events_fit)) 14 (λ _.
      asks (ap (λ (b : Bool). not inserts && b) (is15 k es r.1 s.events v.events_fit)) 15 (λ _.
      asks (is25 n s v h es r once c) 25 (λ _.
      asks (is26 n s v h es r once) 26 (λ _.
      asks (is27 n s v h es r once) 27 (λ _.
      asks (is28 n s v h es r once) 28 (λ _.
      asks (ap (λ (l : ℕ). inserts && ltb c.room (rows + l)) more) 17 (λ _. refl))))))))))))))

-- ---- Track 1

pub answer_admission_lem : (s : State ℕ ℕ) (c : Context) (h : Head) (a : Admission) →
    first (checks_of c (admission h a)) s
    ≡ answer_admission c (is_insert (type_of h.tipo)) (out_of_quarter c h.key.taken) (t11 h.key a.case) (t12 a.residence)
    (zero_kept a.case.prevalente) (has (key_number h.key) s.cases) (length s.cases + length s.events)
unfolding first answer_admission any all any_in all_in
answer_admission_lem s c h a =
    let stands : Bool = has (key_number h.key) s.cases in
    let inserts : Bool = is_insert (type_of h.tipo) in
    asks {a = out_of_quarter c h.key.taken} refl 10 (λ _.
    asks {a = t11 h.key a.case} refl 11 (λ _.
    asks {a = t12 a.residence} refl 12 (λ _.
    asks {a = zero_kept a.case.prevalente} refl 13 (λ _.
    asks (ap (λ (b : Bool). inserts && b) (or-false (stands || false) ∙ or-false stands)) 14 (λ _.
    asks (ap (λ (b : Bool). not inserts && not b) (and-true (stands && true) ∙ and-true stands)) 15 (λ _.
    asks {a = inserts && ltb c.room (length s.cases + length s.events + 1)} refl 17 (λ _. refl)))))))
