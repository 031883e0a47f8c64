use borrow.Author.Rules.{rules}
use borrow.Author.Tests.{tests}
use Prim.Native.Nat.{ℕ}
use mathlib.Core.Bool.{Bool, true, false, cond, not, beq}
use mathlib.Core.List.{List}
use mathlib.Core.Path.{◌≡◌, ◌∙◌, refl}
use Rattle.laws.specs.Lists.{any}
use Rattle.std.proofs.lemmas.Iterator.{YieldsList-from_slice}
use Rattle.std.proofs.lemmas.Iterator.Search.{any_from_yields_List}
use Rattle.laws.proofs.Library.{any_is}
use Rattle.judge.specs.ByNumber.{key_among}
use Rattle.judge.specs.CaseRows.{standing_in}
use Rattle.judge.proofs.standing.some_event.Goals as goal

-- it stands, where that is asked for, or it does not
as_asked : (r s want : Bool) → r ≡ s → beq r want ≡ cond want s (not s)
as_asked true s true e = e
as_asked true s false e = rw (← e)
as_asked false s true e = e
as_asked false s false e = rw (← e)

-- one test or the other of all events
either : (b : Bool) (p : ℕ → Bool) (evs : List ℕ) → any (λ e. cond b (p e) (not (p e))) evs ≡ cond b (any p evs) (any (λ e. not (p e)) evs)
either true p evs = refl
either false p evs = refl

pub returns : goal.returns
returns c =
    let evs = c.args.evs.now in
    let there = standing_in c.args.rows.reg.now c.args.rows.lo c.args.rows.hi in
    λ up. any_from_yields_List (λ e. cond c.args.standing (key_among there e) (not (key_among there e))) _ _ _ c.any.ensures.ran (YieldsList-from_slice evs (search rules))
    (λ x b q k. search (rules, tests, as_asked)) ∙ any_is _ evs ∙ either c.args.standing (key_among there) evs
