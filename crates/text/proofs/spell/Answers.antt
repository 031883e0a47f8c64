use Rattle.text.proofs.SpelledLaws.{spell_start, spell_room, spell_on, spell_end}
use borrow.Author.Rules.{rules}
use native.Mathlib.Omega.{arith}
use Rattle.text.proofs.spell.Goals as goal

pub loop-rest-init : goal.loop-rest-init
loop-rest-init c = spell_start c.args.n c.args.text.now (search rules) c.requires

pub overflow_sub-at : goal.overflow_sub-at
overflow_sub-at c = let l = spell_room c.loop-rest.invariant c.loop-rest-test.true in search rules

pub loop-rest-preserved : goal.loop-rest-preserved
loop-rest-preserved c = spell_on c.loop-rest.invariant c.loop-rest-test.true c.digit.ensures

pub returns : goal.returns
returns c =
    (omega (arith, c.loop-rest.invariant.inside, c.loop-rest.invariant.long), spell_end c.loop-rest.invariant c.loop-rest-test.false c.digit-2.ensures)
