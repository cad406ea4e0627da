-- `dtype_cast::checked_cast` meets its contract: the scan, then the walk. Assumes nothing.
use Rattle.dtype_cast.proofs.Entry.{scanned}
use Rattle.dtype_cast.proofs.checked_cast.Goals as goal

pub returns-then-all_yes : goal.returns-then-all_yes
returns-then-all_yes c =
    scanned c.requires.from_valid c.requires.to_valid c.all_yes.ensures c.if-all_yes.true
