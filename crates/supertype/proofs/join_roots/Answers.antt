-- `supertype::join_roots` meets its contract. Assumes nothing.
use mathlib.Core.Path.{sym, ap, subst, ◌∙◌}
use Rattle.std.specs.Prelude.{Ok}
use Rattle.std.proofs.lemmas.Result.{err_from_is_err_and}
use Rattle.flat.specs.Tree.{head_kind, head_arg}
use Rattle.flat.specs.Reading.{RootFits}
use Rattle.flat.proofs.Truths.{handed_on}
use Rattle.supertype_answer.specs.Join.{result_of}
use Rattle.supertype_answer.proofs.Joins.{left_refused, right_refused, both_roots}
use Rattle.supertype.proofs.Checks.{both_fit, pair_refused, pair_joined}
use Rattle.supertype.proofs.join_roots.Goals as goal
use Rattle.supertype.proofs.join_roots.Goals.{In_ok-r}

-- both are types
fitting : (c : In_ok-r) → RootFits (Ok c.in_ok-l.l) × RootFits (Ok c.in_ok-r.r)
fitting c = (subst RootFits c.in_ok-l.was c.requires.0, subst RootFits c.in_ok-r.was c.requires.1)

pub returns-in_err-l : goal.returns-in_err-l
returns-in_err-l c =
    let given = err_from_is_err_and c.from_residual.result c.from_residual.ensures.1 in
    left_refused result_of _ _ given c.in_err-l.was

pub returns-in_err-r : goal.returns-in_err-r
returns-in_err-r c =
    let given = err_from_is_err_and c.from_residual-in_err-r.result c.from_residual-in_err-r.ensures.1 in
    right_refused result_of _ _ given c.in_ok-l.was c.in_err-r.was

pub returns-in_err-check_pair : goal.returns-in_err-check_pair
unfolding head_kind head_arg
returns-in_err-check_pair c =
    let refused = c.from_residual-in_err-check_pair in
    ap result_of (handed_on (err_from_is_err_and refused.result refused.ensures.1))
    ∙ pair_refused _ _ _ _ (sym c.in_err-check_pair.was ∙ c.check_pair.ensures)
    ∙ both_roots result_of _ c.in_ok-l.was c.in_ok-r.was

pub node_supertype-requires : goal.node_supertype-requires
node_supertype-requires c =
    both_fit _ _ (fitting (goal.at.node_supertype-requires c).In_ok-r) (sym c.in_ok-check_pair.was ∙ c.check_pair.ensures)

pub returns : goal.returns
unfolding head_kind head_arg
returns c =
    pair_joined _ _ _ (sym c.in_ok-check_pair.was ∙ c.check_pair.ensures) c.node_supertype.ensures
    ∙ both_roots result_of _ c.in_ok-l.was c.in_ok-r.was
