use lib.ListN.{length}
use borrow.Author.Tests.{lt-ltb, le-ltb}
use Rattle.register.specs.RoomAndEmptying.{emptied}
use Rattle.register.proofs.emptying.empty.Goals as goal

pub returns-then-reg-lt4 : goal.returns-then-reg-lt4
unfolding emptied
returns-then-reg-lt4 c = let e = lt-ltb (length c.args.reg.now) 4 c.if-reg-lt4.true in (simp e, simp e)

pub returns : goal.returns
unfolding emptied
returns c = let e = le-ltb (length c.args.reg.now) 4 c.if-reg-lt4.false in (simp e, simp e c.clear.ensures)
