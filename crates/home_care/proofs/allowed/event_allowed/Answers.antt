use Rattle.home_care.proofs.EventTests.{event_told}
use Rattle.home_care.proofs.allowed.event_allowed.Goals as goal

pub returns : goal.returns
returns c =
    event_told _ _ _ _ _ _ _ _ c.kind_of-kind.ensures c.end_of-end.ensures.0 c.accesses_of-accesses.ensures c.conferma_of-conferma.ensures c.date_of.ensures.0 c.code_of.ensures c.is_code.ensures
