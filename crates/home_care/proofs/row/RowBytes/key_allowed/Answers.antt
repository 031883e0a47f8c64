use Rattle.home_care.proofs.RowFields.{key_told}
use Rattle.home_care.proofs.row.RowBytes.key_allowed.Goals as goal

pub returns : goal.returns
returns c =
    key_told c.args.self.bytes.now c.args.self.wide _ _ _ _ _ _ _ c.characters-asl.ensures c.characters-id.ensures c.get-region.ensures.value c.get-taken.ensures.value c.is_region.ensures c.all_alnum.ensures c.all_id.ensures
