-- `dtype_inner::array_leaf_dtype` meets its contract. Assumes nothing.
use Rattle.dtype.proofs.Answers.{valid_passed}
use Rattle.dtype_inner.proofs.Endings.{finds_array_leaf}
use Rattle.dtype_inner.proofs.Parts.{answers}
use Rattle.dtype_inner.proofs.array_leaf_dtype.Goals as goal

pub returns : goal.returns
returns c = answers finds_array_leaf _ _ _ _ (valid_passed _ _ _ _ c.check.ensures c.in_ok-check.was) c.array_leaf_nodes.ensures
