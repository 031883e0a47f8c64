-- A record of type C that names events of a standing case: it is accepted, and takes out their rows and nothing else.
use Prim.Native.Nat.{ℕ, ◌^◌, ◌<◌}
use mathlib.Core.Path.{◌≡◌, refl, sym, ap, ap₂, ◌∙◌, subst}
use mathlib.Core.Bool.{Bool, true, false, cond, not, ◌&&◌, ◌||◌, and-true, and-false}
use mathlib.Core.List.{List, [], ◌∷◌, ◌++◌, map}
use native.Mathlib.Omega.{arith}
use lib.Dec.{eqb, ltb}
use lib.ListN.{length}
use borrow.Author.Tests.{ne_eqb}
use Rattle.laws.specs.Lists.{all, any, same, some_pair}
use Rattle.codes.specs.CodesAndCharacters.{revaluation}
use Rattle.model.specs.Map.{Map, has, keep, del_all, all_in, twice}
use Rattle.model.specs.Flow.{State, machine}
use Rattle.model.proofs.Lists.{not-all, any_same}
use Rattle.model.proofs.MapLaws.{keep-true}
use Rattle.register.specs.RoomAndEmptying.{room}
use Rattle.home_care.specs.Row.{siad, event_bits, event_in, event_row, kind_of, conferma_of, evaluates}
use Rattle.home_care.specs.Allowed.{event_allowed}
use Rattle.home_care.specs.Anomalies.{Context, bad_conferma, zero_written, t23}
use Rattle.home_care.specs.Record.{event_numbers}
use Rattle.checks.specs.Flow.{event_rows}
use Rattle.checks.specs.CheckOrder.{siad_machine}
use Rattle.checks.specs.Readable.{KeyReadable, event_readable, kept_readable}
use Rattle.checks.proofs.Valid.{Sound}
use Rattle.judge.specs.ByNumber.{wrong, clash, key_among}
use Rattle.judge.specs.Asked.{against_standing}
use Rattle.judge.proofs.InOrder.{answer_events}
use Rattle.judge.proofs.Pairs.{any-map}
use Rattle.judge.proofs.Keys.{twice_rows, is15}
use Rattle.judge.proofs.Answers.{answer_events_lem}
use Rattle.intake.proofs.Sound.{step_kept}
use Rattle.cancellation.specs.Chosen.{dated_in, replaces}
use Rattle.cancellation.specs.FileText.{CaseTexts}
use Rattle.cancellation.specs.CancelFile.{case_told}
use Rattle.undoing.specs.ReadBack.{bits_allowed, head_said, said, record_said}
use Rattle.undoing.proofs.Rows.{less_rows, less_all}

-- ---- what a record says of its events

-- the events, as they were
pub said_numbers : (es : List ℕ) → event_numbers (map said es) ≡ es
unfolding event_numbers
said_numbers [] = refl
said_numbers (e ∷ es) = ap (λ (l : List ℕ). e ∷ l) (said_numbers es)

-- nothing is kept beside them
none_beside : (e : ℕ) → kept_readable (said e) ≡ true
none_beside e = go (evaluates e)
  where
    go : (b : Bool) → cond b true true ≡ true
    go true = refl
    go false = refl

-- the bits and values that a row asks for
pub said_readable : (es : List ℕ) → all event_readable (map said es) ≡ all bits_allowed es
unfolding all
said_readable [] = refl
said_readable (e ∷ es) =
    ap₂ ◌&&◌ (ap (λ (b : Bool). ltb e (2 ^ event_bits) && b) (ap (λ (b : Bool). event_allowed (event_in e) && b) (none_beside e) ∙ and-true (event_allowed (event_in e)))) (said_readable es)

-- 21: less_chosen a Valutazione, conferma 2 alone is bad
said_bad : (es : List ℕ) → any bad_conferma (map said es) ≡ any replaces es
said_bad es =
    any-map said bad_conferma es
    ∙ any_same (λ e. bad_conferma (said e)) replaces es
    (λ e. ap (λ (b : Bool). eqb (kind_of e) revaluation && b) (go (eqb (conferma_of e) 1) (eqb (conferma_of e) 2)))
  where
    go : (a b : Bool) → (a && false) || (b && true) ≡ b
    go a b = rw (and-false a, and-true b)

-- 13: no prevalente is written
said_plain : (es : List ℕ) → any zero_written (map said es) ≡ false
unfolding any same
said_plain [] = refl
said_plain (e ∷ es) = said_plain es

-- ---- the checks in their order

-- an answer of 0 to a cancellation: no check up to 24 holds, and every key stands
none_holds : (c : Context) (taken : ℕ) (es : List ℕ) (bad zero stands : Bool) (rows : ℕ) (standing : List ℕ) → (length es ≡ 0 → ⊥) →
    any (wrong 10 c taken) es ≡ false → bad ≡ false → zero ≡ false → some_pair (clash 22) es ≡ false → any (wrong 23 c taken) es ≡ false → stands ≡ true →
    any (λ e. not (key_among standing e)) es ≡ false → answer_events c false true taken es bad zero stands rows standing ≡ 0
unfolding answer_events against_standing
none_holds c taken es bad zero stands rows standing some dated confirmed plain once ends here each =
    rw (ne_eqb (length es) 0 some, dated, confirmed, plain, once, ends, here, each)

-- the rows of events of the case
abbrev pub rows_said : CaseTexts → List ℕ → Map ℕ
rows_said x es = event_rows (case_told x) (map said es)

pub rows_append : (x : CaseTexts) (a b : List ℕ) → rows_said x (a ++ b) ≡ rows_said x a ++ rows_said x b
unfolding event_rows
rows_append x [] b = refl
rows_append x (e ∷ a) b = ap (λ (m : Map ℕ). event_row (case_told x) e 0 ∷ m) (rows_append x a b)

-- the state less_chosen them
abbrev pub less_said : CaseTexts → List ℕ → State ℕ ℕ → State ℕ ℕ
less_said x es t = record { cases = t.cases; events = less_rows (rows_said x es) t.events }

module _ (c : Context) (x : CaseTexts) where
  -- events that a record of the quarter may cancel where t stands
  pub record Cancels (t : State ℕ ℕ) (es : List ℕ) : Type 0 where
    pub allowed : all bits_allowed es ≡ true
    pub dated : all (dated_in c.first c.last) es ≡ true
    pub confirmed : any replaces es ≡ false
    pub ends : t23 es ≡ false
    pub once : twice (rows_said x es) ≡ false
    pub stand : all_in (rows_said x es) t.events ≡ true

  module _ (n : ℕ) (room_is : c.room ≡ room siad n) (key : KeyReadable (head_said x).key) (t : State ℕ ℕ) (v : Sound n t)
      (here : has (case_told x) t.cases ≡ true) (es : List ℕ) (some : 0 < length es) (k : Cancels t es) where
    readable : all event_readable (map said es) ≡ true
    readable = said_readable es ∙ k.allowed

    -- it is accepted
    pub accepted : (siad_machine c).judge t (record_said x es) ≡ 0
    unfolding machine
    accepted =
        answer_events_lem n t v c (head_said x) (map said es) (key, readable)
        ∙ none_holds c (head_said x).key.taken (event_numbers (map said es)) _ _ _ _ _
        (λ e. omega (arith, ap length (said_numbers es)))
        (ap (any (wrong 10 c (head_said x).key.taken)) (said_numbers es) ∙ sym (not-all (dated_in c.first c.last) es) ∙ ap not k.dated)
        (said_bad es ∙ k.confirmed)
        (said_plain es)
        (sym (twice_rows (case_told x) (map said es) readable) ∙ k.once)
        (ap t23 (said_numbers es) ∙ k.ends)
        here
        (sym (is15 (case_told x) (map said es) readable t.events v.events_fit) ∙ ap not k.stand)

    -- and leaves everything but its events
    pub leaves : (siad_machine c).act t (record_said x es) ≡ less_said x es t
    unfolding machine del_all
    leaves =
        let e : keep (λ k. not false) (del_all (rows_said x es) t.events) ≡ less_rows (rows_said x es) t.events
        = keep-true (λ k. not false) (del_all (rows_said x es) t.events) (λ k. refl) ∙ less_all (rows_said x es) t.events in
        λ i. record { cases = t.cases; events = e i }

    -- in a sound state
    pub left_sound : Sound n (less_said x es t)
    left_sound = subst (Sound n) leaves (step_kept c n room_is t (record_said x es) v (key, readable) accepted)
