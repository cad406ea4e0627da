-- `supertype_answer::put` meets its contract. Assumes nothing.
use mathlib.Core.Path.{sym, ap, ◌∙◌}
use borrow.Author.Tests.{eqb-true, eqb-false}
use Rattle.std.proofs.lemmas.Result.{err_from_is_err_and}
use Rattle.std.specs.Prelude.{Ok}
use Rattle.flat.proofs.Truths.{handed_on}
use Rattle.flat.proofs.Outputs.{found_refusal}
use Rattle.supertype_answer.specs.Join.{result_of}
use Rattle.supertype_answer.proofs.Joins.{kinds_too_short, args_too_short, one_node}
use Rattle.supertype_answer.proofs.put.Goals as goal
use Rattle.supertype_answer.proofs.put.Goals.{then-is_empty-via-then-is_empty, then-is_empty-via-else-is_empty+then-is_empty-2}

pub returns-in_err-node : goal.returns-in_err-node
returns-in_err-node c =
    rw (handed_on (err_from_is_err_and c.from_residual.result c.from_residual.ensures.1))
    (found_refusal _ _ (ap result_of c.in_err-node.was))

pub returns-then-is_empty : goal.returns-then-is_empty
returns-then-is_empty c =
    let found = c.in_ok-node.was ∙ ap Ok c.in-Some.is in
    elim c.then-is_empty.branch [
      | then-is_empty-via-then-is_empty w ↦
          kinds_too_short found _ _ (eqb-true _ _ (sym c.is_empty.ensures ∙ w.if-is_empty.true))
      | then-is_empty-via-else-is_empty+then-is_empty-2 w ↦
          args_too_short found _ _ (eqb-false _ _ (sym c.is_empty.ensures ∙ w.if-is_empty.false))
          (eqb-true _ _ (sym w.is_empty-else-is_empty.ensures ∙ w.if-is_empty-2.true))
    ]

pub returns : goal.returns
returns c =
    one_node (c.in_ok-node.was ∙ ap Ok c.in-Some.is) _ _ (eqb-false _ _ (sym c.is_empty.ensures ∙ c.if-is_empty.false))
    (eqb-false _ _ (sym c.is_empty-else-is_empty.ensures ∙ c.if-is_empty-2.false))
