-- `supertype::node::dyn_number` meets its contract. Assumes nothing.
use native.Mathlib.Omega.{arith}
use Rattle.std.proofs.lemmas.Grind.{common_steps}
use Rattle.supertype.proofs.Numbers.{to_int64, to_itself, to_numeric}
use Rattle.supertype.proofs.node.dyn_number.Goals as goal

pub returns-in-0 : goal.returns-in-0
returns-in-0 c = to_itself _ _ _ c.smallest_fitting.ensures.0 (omega arith) (omega arith) c.in-0.is

pub returns-in-7-to-10 : goal.returns-in-7-to-10
returns-in-7-to-10 c = to_int64 _ _ _ c.smallest_fitting.ensures.0 c.if-dt-eq-UINT64.true (omega arith) (omega arith)

pub returns-in_default : goal.returns-in_default
returns-in_default c =
    to_numeric _ _ _ c.smallest_fitting.ensures.0 (λ e. grind (arith, common_steps)) c.numeric_supertype.ensures
