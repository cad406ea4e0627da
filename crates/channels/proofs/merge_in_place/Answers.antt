-- `channels::merge_in_place` meets its contract. Assumes nothing.
use Rattle.channels.proofs.Arms.{by_root}
use Rattle.channels.proofs.merge_in_place.Goals as goal

pub returns : goal.returns
returns c = by_root _ _ _ _ c.check_root.ensures.0 c.merge_codes.ensures
