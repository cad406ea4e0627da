-- `supertype::get_supertype_with_options` meets its contract. Assumes nothing.
use Rattle.flat.specs.Reading.{reading}
use Rattle.supertype.proofs.Checks.{joined}
use Rattle.supertype.proofs.get_supertype_with_options.Goals as goal

pub returns : goal.returns
returns c =
    let left = c.check_root-left.ensures.0 in
    rw (← joined _ _ (reading _ _ _ _) (reading _ _ _ _) left c.check_root-right.ensures.0
    c.join_roots.ensures)
    c.put.ensures
