use Rattle.home_care.proofs.RowFields.{rest_told}
use Rattle.home_care.proofs.row.RowBytes.rest_allowed.Goals as goal

pub returns : goal.returns
returns c =
    λ k y. rest_told c.args.self.bytes.now c.args.self.wide k _ _ _ _ _ _ c.characters-prevalente.ensures c.get-birth.ensures.value c.get-infection.ensures.value c.get-pad.ensures.value c.prevalente_allowed.ensures y
