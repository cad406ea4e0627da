-- `dtype_eq::equal` meets its contract. Assumes nothing.
use mathlib.Core.Path.{◌∙◌}
use lib.Dec.{lit≤}
use Rattle.std.proofs.lemmas.Result.{err_from_is_err_and}
use Rattle.flat.proofs.Truths.{handed_on}
use Rattle.dtype.specs.Equality.{equal}
use Rattle.dtype.proofs.Answers.{plain_some, valid_even}
use Rattle.dtype_eq.proofs.Answers.{left_answer, right_answer, alike_valid, unlike, plain_equal}
use Rattle.dtype_eq.proofs.equal.Goals as goal

pub bounds-left_kinds-0 : goal.bounds-left_kinds-0
bounds-left_kinds-0 c = search plain_some

pub bounds-right_kinds-0 : goal.bounds-right_kinds-0
bounds-right_kinds-0 c = search plain_some

pub returns-then-is_plain-2 : goal.returns-then-is_plain-2
returns-then-is_plain-2 c =
    plain_equal _ _ _ _ _ _ (lit≤ tt) c.is_plain.ensures c.if-is_plain.true c.is_plain-then-is_plain.ensures c.if-is_plain-2.true c.equal_node.ensures

pub returns-in_err-check : goal.returns-in_err-check
returns-in_err-check c =
    handed_on (err_from_is_err_and c.from_residual.result c.from_residual.ensures.1) ∙ left_answer equal _ _ _ _ _ _ c.check.ensures c.in_err-check.was

pub alike-requires : goal.alike-requires
alike-requires c = valid_even _ _ _ _ c.check.ensures c.in_ok-check.was

pub returns-then-alike : goal.returns-then-alike
returns-then-alike c = alike_valid _ _ _ _ _ _ c.check.ensures c.in_ok-check.was c.alike.ensures c.if-alike.true

pub returns-in_err-check-2 : goal.returns-in_err-check-2
returns-in_err-check-2 c =
    handed_on (err_from_is_err_and c.from_residual-in_err-check-2.result c.from_residual-in_err-check-2.ensures.1) ∙ right_answer equal _ _ _ _ _ _ c.check.ensures c.in_ok-check.was c.check-2.ensures c.in_err-check-2.was

pub returns : goal.returns
returns c = unlike _ _ _ _ _ _ c.check.ensures c.in_ok-check.was c.check-2.ensures c.in_ok-check-2.was c.alike.ensures c.if-alike.false
