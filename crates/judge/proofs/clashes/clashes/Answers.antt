use Prim.Native.Nat.{ℕ, ◌+◌, ◌-◌}
use mathlib.Core.Path.{◌≡◌, refl, ap, ◌∙◌}
use mathlib.Core.List.{List}
use lib.ListN.{length, drop, take, get_or, drop_of_length-le}
use native.Mathlib.Omega.{arith}
use Rattle.std.proofs.lemmas.List.{take_all, length-drop}
use Rattle.laws.specs.Lists.{any}
use Rattle.laws.proofs.Places.{front}
use Rattle.judge.specs.ByNumber.{clash}
use Rattle.judge.specs.CaseRows.{standing_in}
use Rattle.judge.proofs.Scan.{hit, miss, past}
use Rattle.judge.proofs.Rows.{next_row, no_row}
use Rattle.judge.proofs.Clashing.{unreplaced, fresh_end, fresh_later, rival_stands, no_rival}
use Rattle.judge.proofs.clashes.clashes.Goals as goal

-- The invariants: nothing is found yet, and the rest, of the record's events or of the rows, gives the same as the whole.

-- the events behind place i, as the code takes them
abbrev behind : List ℕ → ℕ → List ℕ
behind evs i = take (length evs - (i + 1)) (drop (i + 1) evs)

behind_is : (p : ℕ → _) (evs : List ℕ) (i : ℕ) → any p (behind evs i) ≡ any p (drop (i + 1) evs)
behind_is p evs i = ap (any p) (take_all (length evs - (i + 1)) (drop (i + 1) evs) (omega (arith, length-drop (i + 1) evs)))

pub search-init : goal.search-init
search-init c = (refl, λ settled. refl)

pub loop-b-init : goal.loop-b-init
loop-b-init c = (c.search.invariant.0, refl)

pub loop-b-preserved : goal.loop-b-preserved
loop-b-preserved c =
    let later = behind c.args.evs.now c.search.i in
    (c.loop-b.invariant.0, miss _ _ (drop c.loop-b.b-index later) c.loop-b.invariant.1 _ _ (front later c.loop-b.b-index c.loop-b-test.true) _ c.clash.ensures c.if-clash.false)

pub loop-k-init : goal.loop-k-init
loop-k-init c = (c.loop-b.invariant.0, refl)

pub event_at-requires : goal.event_at-requires
event_at-requires c = omega (arith, c.rivals-span.ensures.high)

pub loop-k-preserved : goal.loop-k-preserved
loop-k-preserved c =
    let evs = c.args.evs.now in
    (c.loop-k.invariant.0, miss _ _ (standing_in c.args.rows.reg.now c.loop-k.k c.rivals-span.result.hi) c.loop-k.invariant.1 _ _ (next_row c.args.rows.reg.now c.loop-k.k c.rivals-span.result.hi c.loop-k-test.true) _ (c.clash_standing.ensures ∙ ap (unreplaced (clash c.args.number) evs (get_or evs c.search.i 0)) c.event_at.ensures.0) c.if-clash_standing.false)

pub search-preserved : goal.search-preserved
search-preserved c =
    let evs = c.args.evs.now in
    let later = behind evs c.search.i in
    let r = c.args.rows in
    let which = c.args.number in (
      c.loop-k.invariant.0,
      λ settled. no_rival which evs r.reg.now r.lo r.hi c.search.i settled c.search-test.true _ (c.search.invariant.1 settled) _ _ c.rivals-span.ensures
          (past _ _ (drop c.loop-b.b-index later) c.loop-b.invariant.1 (drop_of_length-le later c.loop-b-test.false) ∙ behind_is (clash which (get_or evs c.search.i 0)) evs c.search.i)
          (past _ _ (standing_in r.reg.now c.loop-k.k c.rivals-span.result.hi) c.loop-k.invariant.1 (no_row r.reg.now c.loop-k.k c.rivals-span.result.hi c.loop-k-test.false)),
    )

pub returns-after-search : goal.returns-after-search
returns-after-search c =
    let r = c.args.rows in
    λ settled. c.search.invariant.0 ∙ fresh_end (clash c.args.number) c.args.evs.now (standing_in r.reg.now r.lo r.hi) c.search.i _ (c.search.invariant.1 settled) c.search-test.false

pub returns-then-clash : goal.returns-then-clash
returns-then-clash c =
    let evs = c.args.evs.now in
    let later = behind evs c.search.i in
    let r = c.args.rows in
    let which = c.args.number in
    λ settled. fresh_later (clash which) evs (standing_in r.reg.now r.lo r.hi) c.search.i _ (c.search.invariant.1 settled) c.search-test.true
    (hit _ _ (drop c.loop-b.b-index later) c.loop-b.invariant.1 _ _ (front later c.loop-b.b-index c.loop-b-test.true) _ c.clash.ensures c.if-clash.true ∙ behind_is (clash which (get_or evs c.search.i 0)) evs c.search.i)

pub returns-then-clash_standing : goal.returns-then-clash_standing
returns-then-clash_standing c =
    let evs = c.args.evs.now in
    let r = c.args.rows in
    let which = c.args.number in
    λ settled. rival_stands which evs r.reg.now r.lo r.hi c.search.i settled c.search-test.true _ (c.search.invariant.1 settled) _ _ c.rivals-span.ensures
    (hit _ _ (standing_in r.reg.now c.loop-k.k c.rivals-span.result.hi) c.loop-k.invariant.1 _ _ (next_row r.reg.now c.loop-k.k c.rivals-span.result.hi c.loop-k-test.true) _ (c.clash_standing.ensures ∙ ap (unreplaced (clash which) evs (get_or evs c.search.i 0)) c.event_at.ensures.0) c.if-clash_standing.true)
