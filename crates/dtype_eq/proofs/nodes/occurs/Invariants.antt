-- `dtype_eq::nodes::occurs` meets its contract: the positions that are left to try decide. Assumes nothing.
use Rattle.dtype_eq.proofs.Steps.{Trying}
use Rattle.dtype_eq.proofs.nodes.occurs.Given as goal

abbrev pub invariant-loop-at : goal.invariant-loop-at
invariant-loop-at l = Trying l.kinds l.args l.pattern_kinds l.pattern_args l.at
