-- `dtype_build::leaf::materialized_kind` meets its contract. Assumes nothing.
use native.Mathlib.Omega.{arith}
use Rattle.dtype_build.proofs.Leaves.{materialized_str, materialized_float, materialized_int, materialized_same}
use Rattle.dtype_build.proofs.leaf.materialized_kind.Goals as goal

pub returns-in-24 : goal.returns-in-24
returns-in-24 c = materialized_str _ _ c.in-24.is

pub returns-in-25 : goal.returns-in-25
returns-in-25 c = materialized_float _ _ c.in-25.is

pub returns-in-26-to-27 : goal.returns-in-26-to-27
returns-in-26-to-27 c = materialized_int _ _ _ (omega arith) (omega arith) c.materialize_dyn_int.ensures

pub returns-in_default : goal.returns-in_default
returns-in_default c = materialized_same _ _ (omega arith) (omega arith) (omega arith) (omega arith)

pub returns-in_default-2 : goal.returns-in_default-2
returns-in_default-2 c = materialized_same _ _ (omega arith) (omega arith) (omega arith) (omega arith)
