use lib.ListN.{length}
use Rattle.rows.proofs.Writing.{packed}
use Rattle.home_care.proofs.pack.pack_key.Goals as goal

pub returns : goal.returns
returns c = packed (length c.args.out.now) c.finish.new.out c.put_key.ensures.wrote c.put_key.auto.out c.finish.ensures
