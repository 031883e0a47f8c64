-- One record of a flow, by its kind: what is found afterwards, the order of the rows, and how many there are.
use Prim.Native.Nat.{ℕ, ◌+◌, ◌≤◌}
use mathlib.Core.Path.{◌≡◌, refl, ap, ◌∙◌}
use mathlib.Core.Bool.{Bool, true, false, cond, not, ◌&&◌, ◌||◌}
use mathlib.Core.Option.{Option, none, some}
use native.Mathlib.Omega.{arith}
use lib.ListN.{length}
use lib.Dec.{ltb}
use borrow.Author.Tests.{not-false, ltb-false}
use Rattle.laws.proofs.Truth.{or_left, or_right, and_left, and_right}
use Rattle.model.proofs.MapLaws.{find-put_all, find-del_all, find-keep, asc_keep, asc_put_all, asc_del_all, ext}
use Rattle.model.proofs.MapSizes.{size_insert, size_vary, size_cancel, size_keep}
use Rattle.model.specs.Map.{Map, is_some, or_else, find, has, keep, del_all, any_in, all_in, twice}
use Rattle.model.specs.Transmission.{Kind, insert, vary, cancel, is_insert, is_cancel}
use Rattle.model.specs.Flow.{State, Good, applied}
use Rattle.model.specs.Log.{shown}

-- same lookups, same state
pub same : {F E : Type 0} {s t : State F E} → Good s → Good t →
    ((k : ℕ) → find k s.cases ≡ find k t.cases) → ((k : ℕ) → find k s.events ≡ find k t.events) → s ≡ t
same {s} {t} g h c e =
    let p : s.cases ≡ t.cases = ext 0 s.cases t.cases g.0 h.0 c in
    let q : s.events ≡ t.events = ext 0 s.events t.events g.1 h.1 e in
    λ i. record { cases = p i; events = q i }

-- one record, by its kind

or_else_lem : {F : Type 0} (a b : Option F) → or_else a b ≡ cond (is_some a) a b
or_else_lem none b = refl
or_else_lem (some v) b = refl

or_else_or : {F : Type 0} (a b : Option F) → or_else a b ≡ cond (is_some a || false) a b
or_else_or none b = refl
or_else_or (some v) b = refl

gone : {F : Type 0} (h b : Bool) (o : Option F) → cond (not b) (cond h none o) none ≡ cond (h || b) none o
gone true true o = refl
gone true false o = refl
gone false true o = refl
gone false false o = refl

module _ {F E : Type 0} (cs : Map F) (es : Map E) (w : ℕ → Bool) (s : State F E) where
  pub case_found : (t : Kind) (k : ℕ) → find k (applied t cs es w s).cases ≡ cond (has k cs) (shown t (find k cs)) (find k s.cases)
  case_found insert k = find-put_all k cs s.cases ∙ or_else_lem (find k cs) (find k s.cases)
  case_found vary k = find-put_all k cs s.cases ∙ or_else_lem (find k cs) (find k s.cases)
  case_found cancel k = find-del_all k cs s.cases

  pub event_found : (t : Kind) (k : ℕ) →
      find k (applied t cs es w s).events ≡ cond (has k es || (is_cancel t && w k)) (shown t (find k es)) (find k s.events)
  event_found insert k = find-put_all k es s.events ∙ or_else_or (find k es) (find k s.events)
  event_found vary k = find-put_all k es s.events ∙ or_else_or (find k es) (find k s.events)
  event_found cancel k =
      find-keep k (λ j. not (w j)) (del_all es s.events) ∙
      ap (λ (o : Option E). cond (not (w k)) o none) (find-del_all k es s.events) ∙
      gone (has k es) (w k) (find k s.events)

  pub good_applied : (t : Kind) → Good s → Good (applied t cs es w s)
  good_applied insert g = (asc_put_all cs s.cases g.0, asc_put_all es s.events g.1)
  good_applied vary g = (asc_put_all cs s.cases g.0, asc_put_all es s.events g.1)
  good_applied cancel g =
      (asc_del_all cs s.cases g.0, asc_keep 0 (λ k. not (w k)) (del_all es s.events) (asc_del_all es s.events g.1))

  -- how many rows, where none of the anomalies 14, 15 and 22 holds
  module _ (g : Good s) where
    pub cases_size : (t : Kind) →
        is_insert t && (any_in cs s.cases || any_in es s.events) ≡ false →
        not (is_insert t) && not (all_in cs s.cases && all_in es s.events) ≡ false →
        twice cs || twice es ≡ false →
        length (applied t cs es w s).cases + cond (is_cancel t) (length cs) 0 ≡ length s.cases + cond (is_insert t) (length cs) 0
    cases_size insert a b c =
        omega (arith, size_insert cs s.cases (or_left (twice cs) (twice es) c) (or_left (any_in cs s.cases) (any_in es s.events) a))
    cases_size vary a b c =
        omega (arith, size_vary cs s.cases (and_left (all_in cs s.cases) (all_in es s.events) (not-false _ b)) g.0)
    cases_size cancel a b c =
        omega (
          arith,
          size_cancel cs s.cases (or_left (twice cs) (twice es) c) (and_left (all_in cs s.cases) (all_in es s.events) (not-false _ b)) g.0,
        )

    pub events_size : (t : Kind) →
        is_insert t && (any_in cs s.cases || any_in es s.events) ≡ false →
        not (is_insert t) && not (all_in cs s.cases && all_in es s.events) ≡ false →
        twice cs || twice es ≡ false →
        length (applied t cs es w s).events + (cond (is_cancel t) (length es) 0 + cond (is_cancel t) (length (keep w (del_all es s.events))) 0) ≡
        length s.events + cond (is_insert t) (length es) 0
    events_size insert a b c =
        omega
        (arith, size_insert es s.events (or_right (twice cs) (twice es) c) (or_right (any_in cs s.cases) (any_in es s.events) a))
    events_size vary a b c =
        omega (arith, size_vary es s.events (and_right (all_in cs s.cases) (all_in es s.events) (not-false _ b)) g.1)
    events_size cancel a b c =
        omega (
          arith,
          size_keep w (del_all es s.events),
          size_cancel es s.events (or_right (twice cs) (twice es) c) (and_right (all_in cs s.cases) (all_in es s.events) (not-false _ b)) g.1,
        )

    pub fits_applied : (room : ℕ) (t : Kind) →
        is_insert t && (any_in cs s.cases || any_in es s.events) ≡ false →
        not (is_insert t) && not (all_in cs s.cases && all_in es s.events) ≡ false →
        twice cs || twice es ≡ false →
        is_insert t && ltb room (length s.cases + length s.events + (length cs + length es)) ≡ false →
        length s.cases + length s.events ≤ room →
        length (applied t cs es w s).cases + length (applied t cs es w s).events ≤ room
    fits_applied room insert a b c d h =
        omega (arith, cases_size insert a b c, events_size insert a b c, ltb-false room (length s.cases + length s.events + (length cs + length es)) d)
    fits_applied room vary a b c d h = omega (arith, cases_size vary a b c, events_size vary a b c)
    fits_applied room cancel a b c d h = omega (arith, cases_size cancel a b c, events_size cancel a b c)
