use mathlib.Core.Path.{◌≡◌}
use mathlib.Core.Bool.{false}
use lib.ListN.{drop}
use Rattle.laws.specs.Lists.{any}
use Rattle.judge.specs.ByNumber.{clash, fresh}
use Rattle.judge.specs.CaseRows.{standing_in, Settled}
use Rattle.judge.proofs.Clashing.{unreplaced, fresh_from}
use Rattle.judge.proofs.clashes.clashes.Given as goal

abbrev pub invariant-loop-b : goal.invariant-loop-b
invariant-loop-b l = (l.found ≡ false) × (any (clash l.number l.a) l.b-items ≡ any (clash l.number l.a) (drop l.b-index l.b-items))

abbrev pub invariant-loop-k : goal.invariant-loop-k
invariant-loop-k l = (l.found ≡ false) × (any (unreplaced (clash l.number) l.evs l.a) (standing_in l.rows.reg.now l.initial.k l.k-end) ≡ any (unreplaced (clash l.number) l.evs l.a) (standing_in l.rows.reg.now l.k l.k-end))

abbrev pub invariant-search : goal.invariant-search
invariant-search l = (l.found ≡ false) × (Settled l.rows.reg.now l.rows.lo l.rows.hi → fresh (clash l.number) l.evs (standing_in l.rows.reg.now l.rows.lo l.rows.hi) ≡ fresh_from (clash l.number) l.evs (standing_in l.rows.reg.now l.rows.lo l.rows.hi) l.i)
