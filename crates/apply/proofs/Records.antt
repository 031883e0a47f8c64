-- What an accepted record leaves in a register: 14, 15, 17 and 22 give what the bytes ask.
use Prim.Native.Nat.{ℕ, ◌+◌}
use mathlib.Core.Path.{◌≡◌, refl, sym, ap, ap₂, ◌∙◌, subst}
use mathlib.Core.Bool.{true, false, not, ◌&&◌, ◌||◌, true≢false}
use mathlib.Core.List.{List, [], ◌∷◌}
use native.Mathlib.Omega.{arith}
use lib.Dec.{eqb, ltb}
use lib.ListN.{length}
use borrow.Author.Tests.{not-false, ltb-false}
use Rattle.laws.specs.Lists.{all}
use Rattle.laws.proofs.Truth.{or_right, and_left, and_right}
use Rattle.model.specs.Map.{Row, Map, has, keep, put_all, del_all, any_in, all_in, twice}
use Rattle.model.specs.Checks.{first}
use Rattle.model.specs.Flow.{State, applied}
use Rattle.model.specs.Transmission.{Kind, insert, vary, cancel, is_insert, is_cancel}
use Rattle.model.proofs.MapLaws.{keep-true}
use Rattle.register.specs.Layout.{case_named}
use Rattle.register.specs.RoomAndEmptying.{room}
use Rattle.register.specs.Search.{probe_key}
use Rattle.register.specs.Stored.{Stored, with_rows}
use Rattle.register.specs.Stored as group
use Rattle.register.specs.TakenOut.{without_case, CaseGone}
use Rattle.home_care.specs.Row.{Case, row_bytes, key_bits, evaluation_bits, key_number, siad, event_row}
use Rattle.home_care.proofs.Laid.{laid_siad}
use Rattle.home_care.specs.Record.{Head, Admission, Said, Record, admission, events, type_of}
use Rattle.home_care.specs.Anomalies.{Context}
use Rattle.checks.specs.Flow.{next, case_row, event_rows}
use Rattle.checks.specs.CheckOrder.{checks_of}
use Rattle.checks.proofs.Accepted.{lawful, not17}
use Rattle.apply.proofs.RowsPacked.{AllBits, said_many}
use Rattle.apply.specs.Cases.{row_for, CaseIn}
use Rattle.apply.specs.Events.{rows_for, ListedIn, AllIn, AllOver, AllOut}

-- a cancellation of Track 2 carries no other event away
none_away : (m es : Map ℕ) (b : List ℕ) → Stored siad b (record { cases = m; events = es }) → Stored siad b (record { cases = m; events = keep (λ k. true) es })
none_away m es b = subst (λ (z : Map ℕ). Stored siad b (record { cases = m; events = z })) (sym (keep-true (λ k. true) es (λ k. refl)))

-- ---- Track 1: the case's row

-- the register b is a without the case with the key k, which stands, and its events
abbrev pub CaseOut : ℕ → List ℕ → List ℕ → Type 0
CaseOut k a b = (s : State ℕ ℕ) → Stored siad a s → has k s.cases ≡ true → Stored siad b (without_case siad k s)

pub case_gone : (probe a b : List ℕ) → CaseGone row_bytes key_bits probe a b → CaseOut (probe_key row_bytes key_bits probe) a b
case_gone probe a b x = x.holds siad laid_siad refl refl

-- what a record of each kind does with its case
abbrev CaseDone : Kind → ℕ → Case → List ℕ → List ℕ → Type 0
CaseDone insert k d a b = CaseIn k d a b
CaseDone vary k d a b = CaseIn k d a b
CaseDone cancel k d a b = CaseOut k a b

module _ (k : ℕ) (d : Case) (a b : List ℕ) where
  pub case_out : (t : Kind) → is_cancel t ≡ true → CaseOut k a b → CaseDone t k d a b
  case_out insert e f = absurd (true≢false (sym e))
  case_out vary e f = absurd (true≢false (sym e))
  case_out cancel e f = f

  pub case_in : (t : Kind) → is_cancel t ≡ false → CaseIn k d a b → CaseDone t k d a b
  case_in insert e f = f
  case_in vary e f = f
  case_in cancel e f = absurd (true≢false e)

  -- by 15 the key of a variation or a cancellation stands
  stands_by : (s : State ℕ ℕ) → not (all_in (row_for k d ∷ []) s.cases && all_in [] s.events) ≡ false → has k s.cases ≡ true
  unfolding all_in all
  stands_by s n15 = and_left (has k s.cases) true (and_left (has k s.cases && true) true (not-false _ n15))

  -- the row put in has its room: 17 gives it to a new key
  case_by : (t : Kind) (s : State ℕ ℕ) → CaseDone t k d a b → Stored siad a s →
      not (is_insert t) && not (all_in (row_for k d ∷ []) s.cases && all_in [] s.events) ≡ false →
      is_insert t && ltb (room siad (length a)) (length s.cases + length s.events + 1) ≡ false →
      Stored siad b (applied t (row_for k d ∷ []) [] (λ j. eqb (case_named siad j) k) s)
  unfolding put_all del_all
  case_by insert s f st n15 n17 = f s st (λ q. omega (arith, ltb-false (room siad (length a)) (length s.cases + length s.events + 1) n17))
  case_by vary s f st n15 n17 = f s st (λ q. absurd (true≢false (sym (stands_by s n15) ∙ q)))
  case_by cancel s f st n15 n17 = f s st (stands_by s n15)

  -- the case's row put in or taken out is the accepted record's next state
  pub case_applied : (tipo : ℕ) → CaseDone (type_of tipo) k d a b →
      (h : Head) (x : Admission) (s : State ℕ ℕ) (c : Context) → key_number h.key ≡ k → tipo ≡ h.tipo → x.case ≡ d → c.room ≡ room siad (length a) →
      Stored siad a s → first (checks_of c (admission h x)) s ≡ 0 → Stored siad b (next (admission h x) s)
  case_applied tipo f h x s c key t case m st e =
      let r : Record = admission h x in
      let is : row_for k d ≡ case_row h.key x.case = ap₂ row_for (sym key) (sym case) in
      subst (λ (z : Row ℕ). Stored siad b (applied (type_of h.tipo) (z ∷ []) [] (λ j. eqb (case_named siad j) z.key) s)) is
      (case_by (type_of h.tipo) s (subst (λ (z : ℕ). CaseDone (type_of z) k d a b) t f) st
      (subst (λ (z : Row ℕ). not (is_insert (type_of h.tipo)) && not (all_in (z ∷ []) s.cases && all_in [] s.events) ≡ false) (sym is) ((lawful c).not15 s r e))
      (subst (λ (n : ℕ). is_insert (type_of h.tipo) && ltb n (length s.cases + length s.events + 1) ≡ false) m (not17 c s r e)))

-- ---- Track 2: the events' rows

-- what a record of each kind does with its events
abbrev pub Done : Kind → ℕ → List ℕ → List ℕ → List ℕ → List ℕ → Type 0
Done insert k evs kept a b = AllIn k evs kept a b
Done vary k evs kept a b = AllOver k evs kept a b
Done cancel k evs kept a b = AllOut k evs a b

event_rows_lem : (k : ℕ) (es : List Said) → rows_for k es ≡ event_rows k es
unfolding event_rows
event_rows_lem k [] = refl
event_rows_lem k (e ∷ es) = ap (λ (m : Map ℕ). event_row k e.event e.evaluation ∷ m) (event_rows_lem k es)

module _ (k : ℕ) (evs kept a b : List ℕ) where
  -- by the type, as the code asks for it
  pub done_in : (t : Kind) → is_insert t ≡ true → AllIn k evs kept a b → Done t k evs kept a b
  done_in insert e f = f
  done_in vary e f = absurd (true≢false (sym e))
  done_in cancel e f = absurd (true≢false (sym e))

  pub done_out : (t : Kind) → is_cancel t ≡ true → AllOut k evs a b → Done t k evs kept a b
  done_out insert e f = absurd (true≢false (sym e))
  done_out vary e f = absurd (true≢false (sym e))
  done_out cancel e f = f

  pub done_over : (t : Kind) → is_insert t ≡ false → is_cancel t ≡ false → AllOver k evs kept a b → Done t k evs kept a b
  done_over insert i e f = absurd (true≢false i)
  done_over vary i e f = f
  done_over cancel i e f = absurd (true≢false e)

  -- 14, 17 and 22 give what an insertion asks, 15 what a variation does, 15 and 22 what a cancellation does
  events_by : (t : Kind) (s : State ℕ ℕ) (es : List Said) (rs : Map ℕ) → rows_for k es ≡ rs → ListedIn evs kept es → AllBits evaluation_bits kept → Done t k evs kept a b →
      Stored siad a s → is_insert t && (any_in [] s.cases || any_in rs s.events) ≡ false → not (is_insert t) && not (all_in [] s.cases && all_in rs s.events) ≡ false →
      is_insert t && ltb (room siad (length a)) (length s.cases + length s.events + (0 + length rs)) ≡ false → twice {F = ℕ} [] || twice rs ≡ false →
      Stored siad b (applied t [] rs (λ k. false) s)
  unfolding put_all del_all
  events_by insert s es rs q l few f st n14 n15 n17 n22 =
      subst (λ (z : Map ℕ). Stored siad b (with_rows group.events (put_all z s.events) s)) q
      (f es l s st
      (record {
        once = ap twice q ∙ or_right (twice {F = ℕ} []) (twice rs) n22;
        new = ap (λ (z : Map ℕ). any_in z s.events) q ∙ or_right (any_in [] s.cases) (any_in rs s.events) n14;
        fit = omega (arith, (said_many k es).2, ap length q, ltb-false (room siad (length a)) (length s.cases + length s.events + (0 + length rs)) n17);
      }))
  events_by vary s es rs q l few f st n14 n15 n17 n22 =
      subst (λ (z : Map ℕ). Stored siad b (with_rows group.events (put_all z s.events) s)) q
      (f es l s st (ap (λ (z : Map ℕ). all_in z s.events) q ∙ and_right (all_in [] s.cases) (all_in rs s.events) (not-false _ n15)))
  events_by cancel s es rs q l few f st n14 n15 n17 n22 =
      none_away s.cases (del_all rs s.events) b
      (subst (λ (z : Map ℕ). Stored siad b (with_rows group.events (del_all z s.events) s)) q
      (f es l.numbers (subst (AllBits evaluation_bits) (sym l.beside) few) s st (ap twice q ∙ or_right (twice {F = ℕ} []) (twice rs) n22)
      (ap (λ (z : Map ℕ). all_in z s.events) q ∙ and_right (all_in [] s.cases) (all_in rs s.events) (not-false _ n15))))

-- what was done with the events leaves the accepted record's next state
pub events_applied : (a b : List ℕ) (tipo k : ℕ) (evs kept : List ℕ) → AllBits evaluation_bits kept → Done (type_of tipo) k evs kept a b →
    (h : Head) (es : List Said) (s : State ℕ ℕ) (c : Context) → key_number h.key ≡ k → tipo ≡ h.tipo → ListedIn evs kept es → c.room ≡ room siad (length a) →
    Stored siad a s → first (checks_of c (events h es)) s ≡ 0 → Stored siad b (next (events h es) s)
events_applied a b tipo k evs kept few f h es s c key t l m st e =
    let r : Record = events h es in
    let rs : Map ℕ = event_rows (key_number h.key) es in
    events_by k evs kept a b (type_of h.tipo) s es rs (ap (λ (x : ℕ). rows_for x es) (sym key) ∙ event_rows_lem (key_number h.key) es) l few
    (subst (λ (z : ℕ). Done (type_of z) k evs kept a b) t f) st ((lawful c).not14 s r e) ((lawful c).not15 s r e)
    (subst (λ (n : ℕ). is_insert (type_of h.tipo) && ltb n (length s.cases + length s.events + (0 + length rs)) ≡ false) m (not17 c s r e))
    ((lawful c).not22 s r e)
