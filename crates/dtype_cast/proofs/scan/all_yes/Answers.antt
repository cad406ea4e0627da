-- `dtype_cast::scan::all_yes` meets its contract: what is left to compare after i nodes decides. Assumes nothing.
use Rattle.dtype_cast.proofs.Scans.{other_length, scan_on, scan_stop, scan_end}
use Rattle.dtype_cast.proofs.scan.all_yes.Goals as goal

pub returns-then-from_kinds-to_kinds : goal.returns-then-from_kinds-to_kinds
returns-then-from_kinds-to_kinds c = other_length _ _ _ _ c.if-from_kinds-to_kinds.true

pub returns-then-not-node_yes : goal.returns-then-not-node_yes
returns-then-not-node_yes c = search scan_stop

pub loop-i-preserved : goal.loop-i-preserved
loop-i-preserved c = search scan_on

pub returns : goal.returns
returns c = search scan_end
