use Rattle.checks.proofs.RecordTypes.{insert_is}
use Rattle.checks.proofs.kinds.inserts.Goals as goal

pub returns : goal.returns
returns c = insert_is c.args.tipo
