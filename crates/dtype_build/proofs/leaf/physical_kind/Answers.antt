-- `dtype_build::leaf::physical_kind` meets its contract. Assumes nothing.
use native.Mathlib.Omega.{arith}
use Rattle.flat.specs.Tree.{head_kind}
use Rattle.dtype.specs.Match.{among}
use Rattle.dtype.specs.Physical.{physical_leaf, physical_kind}
use Rattle.dtype_build.proofs.Leaves.{physical_int64, physical_same}
use Rattle.dtype_build.proofs.leaf.physical_kind.Goals as goal

pub returns-in-15 : goal.returns-in-15
unfolding physical_kind physical_leaf head_kind among
returns-in-15 c = rw c.in-15.is

pub returns-in-19 : goal.returns-in-19
unfolding physical_kind physical_leaf head_kind among
returns-in-19 c = rw c.in-19.is

pub returns-in-20-to-22 : goal.returns-in-20-to-22
returns-in-20-to-22 c = physical_int64 _ (omega arith) (omega arith)

pub returns-in_default : goal.returns-in_default
returns-in_default c = physical_same _ (omega arith) (omega arith) (omega arith) (omega arith) (omega arith)

pub returns-in_default-2 : goal.returns-in_default-2
returns-in_default-2 c = physical_same _ (omega arith) (omega arith) (omega arith) (omega arith) (omega arith)
