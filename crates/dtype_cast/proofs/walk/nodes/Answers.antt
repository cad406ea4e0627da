-- `dtype_cast::walk::nodes` meets its contract: no type is deeper than it has nodes. Assumes nothing.
use mathlib.Core.Path.{◌≡◌, sym, ap, ◌∙◌}
use Prim.Native.Nat.{ℕ, ◌≤◌}
use native.Mathlib.Omega.{arith}
use Rattle.std.specs.Prelude.{Option, None, Some, unwrap_or}
use Rattle.flat.specs.Tree.{DataType, size}
use Rattle.flat.specs.Span.{span_within}
use Rattle.flat.proofs.Sizes.{depth_lt}
use Rattle.flat.proofs.Spans.{type_ended, type_deeper}
use Rattle.flat.proofs.Walks.{type_leaf}
use Rattle.dtype_cast.proofs.walk.nodes.Goals as goal

nodes_of : (t : DataType) {levels : ℕ} {o : Option ℕ} → size t ≤ levels → o ≡ span_within levels t → unwrap_or o 0 ≡ size t
nodes_of t {levels = levels} {o = None} h e = absurd (omega (arith, type_deeper levels t e, depth_lt t))
nodes_of t {levels = levels} {o = Some n} h e = (type_ended levels t n e).0

pub returns-then-kinds-lt-LIST : goal.returns-then-kinds-lt-LIST
unfolding size
returns-then-kinds-lt-LIST c = sym (ap size (type_leaf _ _ c.requires c.if-kinds-lt-LIST.true))

pub returns : goal.returns
returns c = c.unwrap_or.ensures ∙ nodes_of _ (omega arith) c.node_span.ensures
