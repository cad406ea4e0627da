-- `encoded_join::merge` meets its contract. Assumes nothing.
use Rattle.channels.proofs.Arms.{by_root}
use Rattle.encoded_join.proofs.merge.Goals as goal

pub returns : goal.returns
returns c = by_root _ _ _ _ c.check_root-root.ensures.0 c.merge_codes.ensures
