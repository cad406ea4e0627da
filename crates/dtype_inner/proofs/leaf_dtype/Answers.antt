-- `dtype_inner::leaf_dtype` meets its contract. Assumes nothing.
use mathlib.Core.Path.{ap}
use Rattle.std.specs.Prelude.{Some}
use Rattle.dtype.proofs.Answers.{valid_passed}
use Rattle.dtype_inner.proofs.Endings.{finds_leaf}
use Rattle.dtype_inner.proofs.Parts.{answers}
use Rattle.dtype_inner.proofs.leaf_dtype.Goals as goal

pub returns : goal.returns
returns c = answers finds_leaf _ _ _ _ (valid_passed _ _ _ _ c.check.ensures c.in_ok-check.was) (ap Some c.leaf_nodes.ensures)
