use Prim.Native.Nat.{ℕ, ◌^◌}
use mathlib.Core.Path.{◌≡◌, refl, sym, ap, ap₂, ◌∙◌}
use mathlib.Core.Bool.{Bool, true, ◌&&◌, true≢false}
use mathlib.Core.List.{List}
use lib.Dec.{eqb, ltb}
use lib.ListN.{length}
use borrow.Author.Tests.{eqb-true, eq-eqb, ne_eqb}
use Rattle.laws.specs.Lists.{all}
use Rattle.laws.proofs.Truth.{and_left, and_right}
use Rattle.home_care.specs.Row.{row_bytes, event_bits, evaluation_bits}
use Rattle.bench_calls.proofs.bench_store_events.Goals as goal

-- what `storable` tests, and what an answer of true gives
abbrev good : List ℕ → List ℕ → Bool
good evs kept =
    all (λ e. ltb e (2 ^ event_bits)) evs && (all (λ v. ltb v (2 ^ evaluation_bits)) kept && eqb (length kept) (length evs))

parts : (evs kept : List ℕ) → good evs kept ≡ true →
    (all (λ e. ltb e (2 ^ event_bits)) evs ≡ true) × (all (λ v. ltb v (2 ^ evaluation_bits)) kept ≡ true) × (length kept ≡ length evs)
parts evs kept h =
    let a = all (λ e. ltb e (2 ^ event_bits)) evs in
    let b = all (λ v. ltb v (2 ^ evaluation_bits)) kept in
    let l = eqb (length kept) (length evs) in
    let r = and_right a (b && l) h in
    (and_left a (b && l) h, and_left b l r, eqb-true (length kept) (length evs) (and_right b l r))

pub returns-then-probe-ne-ROW : goal.returns-then-probe-ne-ROW
returns-then-probe-ne-ROW c = (
  sym (ap (λ (b : Bool). b && good c.args.evs.now c.args.kept.now) (ne_eqb (length c.args.probe.now) row_bytes c.if-probe-ne-ROW.true)),
  λ e. refl,
  λ e. absurd (true≢false (sym e)),
)

pub returns-then-not-storable : goal.returns-then-not-storable
returns-then-not-storable c = (
  sym (ap₂ ◌&&◌ (eq-eqb (length c.args.probe.now) row_bytes c.if-probe-ne-ROW.false) (sym c.storable.ensures ∙ c.if-not-storable.true)),
  λ e. refl,
  λ e. absurd (true≢false (sym e)),
)

pub invariant_of-said : goal.invariant_of-said
invariant_of-said c =
    let p = parts c.args.evs.now c.args.kept.now (sym c.storable.ensures ∙ c.if-not-storable.false) in
    record { events_fit = p.0; evaluations_fit = p.1; beside = p.2 }

pub returns : goal.returns
returns c = (
  sym (ap₂ ◌&&◌ (eq-eqb (length c.args.probe.now) row_bytes c.if-probe-ne-ROW.false) (sym c.storable.ensures ∙ c.if-not-storable.false)),
  λ e. absurd (true≢false e),
  λ e. c.apply_events.ensures.0,
)
