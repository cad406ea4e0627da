-- `dtype_eq::nodes::starts_with` meets its contract: what is left to compare after i nodes decides. Assumes nothing.
use mathlib.Core.Path.{sym}
use Rattle.dtype_eq.proofs.Steps.{starts_short, starts_on, starts_stop, starts_end}
use Rattle.dtype_eq.proofs.nodes.starts_with.Goals as goal

pub returns-then-kinds-pattern_kinds : goal.returns-then-kinds-pattern_kinds
returns-then-kinds-pattern_kinds c = sym (starts_short _ _ _ _ (search) (search))

pub returns-then-not-equal_node : goal.returns-then-not-equal_node
returns-then-not-equal_node c = search starts_stop

pub loop-i-preserved : goal.loop-i-preserved
loop-i-preserved c = search starts_on

pub returns : goal.returns
returns c = search starts_end
