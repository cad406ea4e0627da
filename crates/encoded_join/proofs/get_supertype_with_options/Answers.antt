-- `encoded_join::get_supertype_with_options` meets its contract. Assumes nothing.
use Rattle.encoded.specs.Encoding.{decoding}
use Rattle.supertype.proofs.Checks.{joined}
use Rattle.encoded_join.proofs.get_supertype_with_options.Goals as goal

pub returns : goal.returns
returns c =
    let left = c.check_root-l.ensures.0 in
    rw (← joined _ _ (decoding _ _ _ _) (decoding _ _ _ _) left c.check_root-r.ensures.0
    c.join_roots.ensures)
    c.put.ensures
