-- `supertype_lossless::get_numeric_upcast_supertype_lossless` meets its contract. Assumes nothing.
use Rattle.flat.specs.Reading.{reading}
use Rattle.supertype_lossless.proofs.Roots.{joined}
use Rattle.supertype_lossless.proofs.get_numeric_upcast_supertype_lossless.Goals as goal

pub returns : goal.returns
returns c =
    let left = c.check_root-left.ensures in
    rw (← joined (reading _ _ _ _) (reading _ _ _ _) left c.check_root-right.ensures
    c.upcast_roots.ensures)
    c.put.ensures
