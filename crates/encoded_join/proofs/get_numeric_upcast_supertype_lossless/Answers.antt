-- `encoded_join::get_numeric_upcast_supertype_lossless` meets its contract. Assumes nothing.
use Rattle.encoded.specs.Encoding.{decoding}
use Rattle.supertype_lossless.proofs.Roots.{joined}
use Rattle.encoded_join.proofs.get_numeric_upcast_supertype_lossless.Goals as goal

pub returns : goal.returns
returns c =
    let left = c.check_root-l.ensures in
    rw (← joined (decoding _ _ _ _) (decoding _ _ _ _) left c.check_root-r.ensures
    c.upcast_roots.ensures)
    c.put.ensures
