use Rattle.home_care.proofs.RowFields.{evaluation_told}
use Rattle.home_care.proofs.row.RowBytes.evaluation_allowed.Goals as goal

pub returns : goal.returns
returns c =
    evaluation_told c.args.self.bytes.now c.args.self.wide c.requires _ _ _ _ c.characters-prevalente.ensures c.get-infection.ensures.value c.get-zeros.ensures.value c.prevalente_allowed.ensures
