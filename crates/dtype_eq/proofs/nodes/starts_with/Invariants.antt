-- `dtype_eq::nodes::starts_with` meets its contract: what is left to compare after i nodes decides. Assumes nothing.
use Rattle.dtype_eq.proofs.Steps.{Starting}
use Rattle.dtype_eq.proofs.nodes.starts_with.Given as goal

abbrev pub invariant-loop-i : goal.invariant-loop-i
invariant-loop-i l = Starting l.kinds l.args l.pattern_kinds l.pattern_args l.i
