use Rattle.std.proofs.Common.{arith}
use Rattle.register.proofs.Header.{two_bytes}
use Rattle.register.proofs.counts.count.Goals as goal

pub returns : goal.returns
returns c = (omega (arith, c.from.ensures, c.from_be_bytes.ensures, two_bytes c.args.reg.now c.args.at c.requires), omega (arith, c.from.ensures))
