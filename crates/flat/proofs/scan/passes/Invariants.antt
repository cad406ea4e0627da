-- `flat::scan::passes` meets its contract: the loop stands before a type, and past it before the fields still owed.
-- Assumes nothing.
use Prim.Native.Nat.{◌-◌}
use lib.ListN.{length}
use Rattle.flat.proofs.Scanning.{AtType}
use Rattle.flat.proofs.scan.passes.Given as goal

abbrev pub invariant-loop-at : goal.invariant-loop-at
invariant-loop-at l = AtType l.deep l.kinds l.args l.at l.s

abbrev pub decreases-loop-at : goal.decreases-loop-at
decreases-loop-at l = length l.kinds - l.at
