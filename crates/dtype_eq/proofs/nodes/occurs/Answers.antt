-- `dtype_eq::nodes::occurs` meets its contract: the positions that are left to try decide. Assumes nothing.
use mathlib.Core.Path.{sym}
use native.Mathlib.Omega.{arith}
use Rattle.dtype_eq.proofs.Steps.{occurs_short, occurs_here, occurs_on, occurs_end}
use Rattle.dtype_eq.proofs.nodes.occurs.Goals as goal

pub returns-then-kinds-pattern_kinds : goal.returns-then-kinds-pattern_kinds
returns-then-kinds-pattern_kinds c = sym (occurs_short _ _ _ _ (search) (search))

pub returns-then-starts_with : goal.returns-then-starts_with
returns-then-starts_with c = search occurs_here

pub loop-at-preserved : goal.loop-at-preserved
loop-at-preserved c = occurs_on (search) c.starts_with.ensures (omega arith) (search)

pub returns : goal.returns
returns c = occurs_end c.loop-at.invariant (omega arith)
