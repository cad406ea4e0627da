-- `dtype_inner::get_shape` meets its contract. Assumes nothing.
use Rattle.flat.proofs.Truths.{Fact, fact}
use Rattle.dtype.proofs.Answers.{valid_passed}
use Rattle.dtype_inner.proofs.Shapes.{checked_fit, checked_shape}
use Rattle.dtype_inner.proofs.get_shape.Goals as goal
use Rattle.dtype_inner.proofs.get_shape.Goals.{In_ok-check}

-- they are a type
abbrev passed : In_ok-check → Fact
passed c = fact (valid_passed _ _ _ _ c.check.ensures c.in_ok-check.was)

pub array_shape-requires : goal.array_shape-requires
array_shape-requires c = let v = (passed c).proof in (v.even, checked_fit v)

pub returns : goal.returns
returns c = checked_shape (passed (goal.at.returns c).In_ok-check).proof c.array_shape.ensures
