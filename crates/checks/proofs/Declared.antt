-- What the events of an accepted record can have for an end (10): none, or a day of a quarter that can be declared. This is what `old_unsound`
-- (soundness/proofs/OldRegister) asks of an event.
use Prim.Native.Nat.{ℕ, ◌-◌, ◌*◌, ◌≤◌}
use mathlib.Core.Path.{◌≡◌, refl, ap, sym, ◌∙◌}
use mathlib.Core.Bool.{Bool, true, false, ◌&&◌}
use mathlib.Core.Logic.{inl, inr}
use mathlib.Core.List.{List, [], ◌∷◌}
use native.Mathlib.Omega.{arith}
use lib.Dec.{eqb, ltb, leb}
use borrow.Author.Tests.{eqb-true, ltb-true, leb-true, not-false}
use Rattle.laws.specs.Lists.{all, any}
use Rattle.laws.proofs.Truth.{and_left, and_right, or_left, or_right}
use Rattle.laws.proofs.Every.{Every}
use Rattle.codes.specs.CodesAndCharacters.{suspension}
use Rattle.days.specs.DayNumbers.{day_count, month_of}
use Rattle.days.specs.Quarters.{is_period, first_day}
use Rattle.days.proofs.Months.{first_mono}
use Rattle.model.specs.Checks.{first}
use Rattle.model.specs.Flow.{State}
use Rattle.model.proofs.ChecksLaws.{clear}
use Rattle.home_care.specs.Row.{never, kind_of, end_of, date_of, event_in}
use Rattle.home_care.specs.Record.{Head, Said, events, event_numbers}
use Rattle.home_care.specs.Allowed.{event_allowed, end_allowed}
use Rattle.home_care.specs.Anomalies.{Context, out_of_quarter, day_for}
use Rattle.home_care.proofs.OldRows.{first_declared, EndsDeclared}
use Rattle.checks.specs.CheckOrder.{checks_of}
use Rattle.checks.specs.Readable.{event_readable}
use Rattle.checks.proofs.RowsAllowed.{number_allowed}
use Rattle.checks.proofs.Accepted.{numbered}

-- no quarter that can be declared begins earlier
pub declared_first : (y q : ℕ) → is_period y q ≡ true → first_declared ≤ first_day y q
declared_first y q h =
    let b : 2009 ≤ y = leb-true 2009 y (and_left (leb 2009 y) (leb y 2099) (and_left (leb 2009 y && leb y 2099) _ h)) in
    let m = first_mono (month_of 2009 1) (month_of y (3 * q - 2)) (omega arith) in
    omega arith

module _ (c : Context) (begins : first_declared ≤ c.first) where
  one : (e : ℕ) → event_allowed (event_in e) ≡ true → out_of_quarter c (day_for e) ≡ false → EndsDeclared (end_of e)
  one e a o = go (eqb (end_of e) never) refl
    where
      ends : end_allowed (event_in e) ≡ true
      ends = and_left (end_allowed (event_in e)) _ (and_right (ltb (date_of e) day_count) _ a)

      within : leb c.first (day_for e) ≡ true
      within = and_left (leb c.first (day_for e)) (leb (day_for e) c.last) (not-false _ o)

      go : (b : Bool) → eqb (end_of e) never ≡ b → EndsDeclared (end_of e)
      go true n = inl (eqb-true (end_of e) never n)
      go false n =
          let s : (eqb (kind_of e) suspension && ltb (end_of e) day_count) ≡ true = rw n at ends in
          let k = and_left (eqb (kind_of e) suspension) (ltb (end_of e) day_count) s in
          let d : day_for e ≡ end_of e = rw (k, n) in
          let f : c.first ≤ end_of e = leb-true c.first (end_of e) (ap (leb c.first) (sym d) ∙ within) in
          inr (omega arith, ltb-true (end_of e) day_count (and_right (eqb (kind_of e) suspension) (ltb (end_of e) day_count) s))

  each : (es : List Said) → all event_readable es ≡ true → any (λ e. out_of_quarter c (day_for e)) (event_numbers es) ≡ false → Every (λ e. EndsDeclared (end_of e.event)) es
  unfolding all any event_numbers
  each [] w h = tt
  each (e ∷ es) w h =
      let r = and_left (event_readable e) (all event_readable es) w in (
        one e.event (number_allowed e r) (or_left (out_of_quarter c (day_for e.event)) _ h),
        each es (and_right (event_readable e) (all event_readable es) w) (or_right (out_of_quarter c (day_for e.event)) _ h),
      )

  pub ends_declared : (h : Head) (es : List Said) (s : State ℕ ℕ) → all event_readable es ≡ true → first (checks_of c (events h es)) s ≡ 0 →
      Every (λ e. EndsDeclared (end_of e.event)) es
  ends_declared h es s w e = each es w (clear 10 (checks_of c (events h es)) s (numbered c (events h es)) e)
