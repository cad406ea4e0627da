-- `flat::scan::type_fits` meets its contract: a leaf whose argument is 0. Assumes nothing.
use Rattle.flat.proofs.Scanning.{zero_leaf}
use Rattle.flat.proofs.scan.type_fits.Goals as goal

pub returns-then-arg-eq0 : goal.returns-then-arg-eq0
returns-then-arg-eq0 c = zero_leaf _ _ c.if-kind-lt-LIST.true c.if-arg-eq0.true
