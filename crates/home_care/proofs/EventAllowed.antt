-- What an event that is allowed fits, and its fields read back out of its number: one test serves the reader, the register and the checks.
use Prim.Native.Nat.{ℕ, zero, suc, ◌^◌, ◌≤◌, ◌<◌}
use mathlib.Core.Path.{◌≡◌, refl, ap, ◌∙◌}
use mathlib.Core.Bool.{Bool, true, false, cond, ◌&&◌, false≢true}
use mathlib.Core.Logic.{◌⊎◌, inl, inr, ⊎_elim}
use native.Mathlib.Omega.{arith}
use lib.Dec.{eqb, ltb, leb}
use borrow.Author.Tests.{leb-true, eqb-true, ltb-true, lt-ltb}
use Rattle.laws.specs.Lists.{all, any}
use Rattle.laws.proofs.Truth.{and_left, and_right, either}
use Rattle.laws.proofs.Every.{and_tell}
use Rattle.codes.specs.CodesAndCharacters.{in_ranges, revaluation, service, suspension, codes_of, confirmations}
use Rattle.codes.proofs.Ranges.{ranges_below}
use Rattle.days.specs.DayNumbers.{day_count}
use Rattle.rows.specs.Packing.{packs}
use Rattle.home_care.specs.Row.{Event, never, event_number, event_in}
use Rattle.home_care.specs.Fits.{EventFits}
use Rattle.home_care.specs.Allowed.{end_allowed, accesses_allowed, conferma_allowed, event_allowed}

-- ---- the test by its parts

module _ (e : Event) where
  pub event_allowed_lem : e.date < day_count → end_allowed e ≡ true → in_ranges (codes_of e.kind) e.code ≡ true → accesses_allowed e ≡ true → conferma_allowed e ≡ true →
      event_allowed e ≡ true
  event_allowed_lem d n c a f =
      and_tell (ltb e.date day_count) _ (lt-ltb e.date day_count d)
      (and_tell (end_allowed e) _ n (and_tell (in_ranges (codes_of e.kind) e.code) _ c (and_tell (accesses_allowed e) (conferma_allowed e) a f)))

  module _ (h : event_allowed e ≡ true) where
    past_date : end_allowed e && (in_ranges (codes_of e.kind) e.code && (accesses_allowed e && conferma_allowed e)) ≡ true
    past_date = and_right (ltb e.date day_count) _ h

    past_end : in_ranges (codes_of e.kind) e.code && (accesses_allowed e && conferma_allowed e) ≡ true
    past_end = and_right (end_allowed e) _ past_date

    past_code : accesses_allowed e && conferma_allowed e ≡ true
    past_code = and_right (in_ranges (codes_of e.kind) e.code) _ past_end

-- ---- an event that is allowed has its fields' sizes

-- one of two tests, by a third
cond_either : (t a b : Bool) → cond t a b ≡ true → (a ≡ true) ⊎ (b ≡ true)
cond_either true a b e = inl e
cond_either false a b e = inr e

-- no kind above the four has a code
listed_kind : (k c : ℕ) → in_ranges (codes_of k) c ≡ true → k < 4
unfolding any
listed_kind zero c h = omega arith
listed_kind (suc zero) c h = omega arith
listed_kind (suc (suc zero)) c h = omega arith
listed_kind (suc (suc (suc zero))) c h = omega arith
listed_kind (suc (suc (suc (suc k)))) c h = absurd (false≢true h)

codes_small : (k : ℕ) → all (λ r. leb r.to 99) (codes_of k) ≡ true
unfolding all
codes_small zero = refl
codes_small (suc zero) = refl
codes_small (suc (suc zero)) = refl
codes_small (suc (suc (suc zero))) = refl
codes_small (suc (suc (suc (suc k)))) = refl

module _ (e : Event) (h : event_allowed e ≡ true) where
  end_small : e.end < 2 ^ 17
  end_small =
      ⊎_elim (λ u. let k = eqb-true e.end never u in omega arith)
      (λ u. let k = ltb-true e.end day_count (and_right (eqb e.kind suspension) (ltb e.end day_count) u) in omega arith)
      (either (eqb e.end never) _ (and_left (end_allowed e) _ (past_date e h)))

  accesses_small : e.accesses ≤ 99
  accesses_small =
      ⊎_elim (λ u. leb-true e.accesses 99 u) (λ u. let k = eqb-true e.accesses 0 u in omega arith)
      (cond_either (eqb e.kind service) (leb e.accesses 99) (eqb e.accesses 0) (and_left (accesses_allowed e) (conferma_allowed e) (past_code e h)))

  conferma_small : e.conferma ≤ 2
  unfolding all
  conferma_small =
      ⊎_elim (λ u. ranges_below confirmations 2 e.conferma refl u) (λ u. let k = eqb-true e.conferma 0 u in omega arith)
      (cond_either (eqb e.kind revaluation) (in_ranges confirmations e.conferma) (eqb e.conferma 0) (and_right (accesses_allowed e) (conferma_allowed e) (past_code e h)))

  pub event_fits : EventFits e
  event_fits =
      let c = and_left (in_ranges (codes_of e.kind) e.code) _ (past_end e h) in
      record {
        kind = let k = listed_kind e.kind e.code c in omega arith;
        date = let k = ltb-true e.date day_count (and_left (ltb e.date day_count) _ h) in omega arith;
        code = let k = ranges_below (codes_of e.kind) 99 e.code (codes_small e.kind) c in omega arith;
        end = end_small;
        accesses = let k = accesses_small in omega arith;
        conferma = let k = conferma_small in omega arith;
      }

-- ---- an event's fields read back out of its number

pub event_back : (e : Event) → EventFits e → event_in (event_number e) ≡ e
unfolding packs
event_back e f =
    let kind : (event_in (event_number e)).kind ≡ e.kind = omega (arith, f.kind, f.date, f.code, f.end, f.accesses, f.conferma) in
    let date : (event_in (event_number e)).date ≡ e.date = omega (arith, f.date, f.code, f.end, f.accesses, f.conferma) in
    let code : (event_in (event_number e)).code ≡ e.code = omega (arith, f.code, f.end, f.accesses, f.conferma) in
    let end : (event_in (event_number e)).end ≡ e.end = omega (arith, f.end, f.accesses, f.conferma) in
    let accesses : (event_in (event_number e)).accesses ≡ e.accesses = omega (arith, f.accesses, f.conferma) in
    let conferma : (event_in (event_number e)).conferma ≡ e.conferma = omega (arith, f.conferma) in
    λ i. record { kind = kind i; date = date i; code = code i; end = end i; accesses = accesses i; conferma = conferma i }

-- so what is allowed of an event is allowed of its number
pub number_allowed : (e : Event) → event_allowed e ≡ true → event_allowed (event_in (event_number e)) ≡ true
number_allowed e h = ap event_allowed (event_back e (event_fits e h)) ∙ h
