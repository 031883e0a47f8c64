use Rattle.std.proofs.Common.{lit<, arith}
use Rattle.nodes.specs.Stands.{stands}
use Rattle.tracks.proofs.record.top_of.Goals as goal

pub returns : goal.returns
returns c = (
  λ a m e. let f = c.walk-walked.ensures.0 a (stands m e) in
      (record { after = m; reads = e; transmission = f 0 (omega arith) (lit< tt); patient = f 1 (omega arith) (lit< tt); provider = f 2 (omega arith) (lit< tt); events = f 3 (omega arith) (lit< tt) }, c.walk-walked.ensures.1 a m e),
  c.walk-walked.ensures.2,
)
