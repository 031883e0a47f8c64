use Rattle.checks.proofs.RecordTypes.{cancel_is}
use Rattle.checks.proofs.kinds.cancels.Goals as goal

pub returns : goal.returns
returns c = cancel_is c.args.tipo
