-- `dtype_cast::scan::all_yes` meets its contract: what is left to compare after i nodes decides. Assumes nothing.
use Rattle.dtype_cast.proofs.Scans.{YesSoFar}
use Rattle.dtype_cast.proofs.scan.all_yes.Given as goal

abbrev pub invariant-loop-i : goal.invariant-loop-i
invariant-loop-i l = YesSoFar l.from_kinds l.from_args l.to_kinds l.to_args l.i
