-- `dtype::kind::is_primitive_numeric` meets its contract. Assumes nothing.
use mathlib.Core.Bool.{true, false}
use native.Mathlib.Omega.{arith}
use Rattle.dtype.specs.Predicate.{is_primitive_numeric}
use Rattle.dtype.proofs.Runs.{says, of_run}
use Rattle.dtype.proofs.kind.is_primitive_numeric.Goals as goal

pub returns-in-2-to-14 : goal.returns-in-2-to-14
returns-in-2-to-14 c = of_run is_primitive_numeric true 2 13 (unfold says in tt) _ (omega arith)

pub returns-in-2-to-14-2 : goal.returns-in-2-to-14-2
returns-in-2-to-14-2 c = of_run is_primitive_numeric true 25 3 (unfold says in tt) _ (omega arith)

pub returns-in_default : goal.returns-in_default
returns-in_default c = of_run is_primitive_numeric false 0 2 (unfold says in tt) _ (omega arith)

pub returns-in_default-2 : goal.returns-in_default-2
returns-in_default-2 c = of_run is_primitive_numeric false 15 10 (unfold says in tt) _ (omega arith)

pub returns-in_default-3 : goal.returns-in_default-3
returns-in_default-3 c = of_run is_primitive_numeric false 28 228 (unfold says in tt) _ (omega arith)
