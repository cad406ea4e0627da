-- `dtype_eq::contains_dtype_recursive` meets its contract. Assumes nothing.
use mathlib.Core.Path.{◌∙◌}
use Rattle.std.proofs.lemmas.Result.{err_from_is_err_and}
use Rattle.flat.proofs.Truths.{handed_on}
use Rattle.dtype.proofs.Answers.{valid_even}
use Rattle.dtype_eq.specs.Contains.{contains_dtype_recursive}
use Rattle.dtype_eq.proofs.Answers.{left_answer, right_answer, contains}
use Rattle.dtype_eq.proofs.contains_dtype_recursive.Goals as goal

pub returns-in_err-check : goal.returns-in_err-check
returns-in_err-check c =
    handed_on (err_from_is_err_and c.from_residual.result c.from_residual.ensures.1) ∙ left_answer contains_dtype_recursive _ _ _ _ _ _ c.check.ensures c.in_err-check.was

pub returns-in_err-check-2 : goal.returns-in_err-check-2
returns-in_err-check-2 c =
    handed_on (err_from_is_err_and c.from_residual-in_err-check-2.result c.from_residual-in_err-check-2.ensures.1) ∙ right_answer contains_dtype_recursive _ _ _ _ _ _ c.check.ensures c.in_ok-check.was c.check-2.ensures c.in_err-check-2.was

pub occurs-requires : goal.occurs-requires
occurs-requires c = (valid_even _ _ _ _ c.check.ensures c.in_ok-check.was, valid_even _ _ _ _ c.check-2.ensures c.in_ok-check-2.was)

pub returns : goal.returns
returns c = contains _ _ _ _ _ _ c.check.ensures c.in_ok-check.was c.check-2.ensures c.in_ok-check-2.was c.occurs.ensures
