-- `dtype_inner::inner_dtype` meets its contract. Assumes nothing.
use Rattle.dtype.proofs.Answers.{valid_passed}
use Rattle.dtype_inner.proofs.Endings.{finds_inner}
use Rattle.dtype_inner.proofs.Parts.{answers}
use Rattle.dtype_inner.proofs.inner_dtype.Goals as goal

pub returns : goal.returns
returns c = answers finds_inner _ _ _ _ (valid_passed _ _ _ _ c.check.ensures c.in_ok-check.was) c.inner_nodes.ensures
