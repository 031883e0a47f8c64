use Rattle.home_care.proofs.RowFields.{event_of_lem}
use Rattle.home_care.proofs.event_bits.event_of.Goals as goal

pub returns : goal.returns
returns c = (event_of_lem c.args.row.now c.requires _ c.get.ensures.value, c.get.ensures.small)
