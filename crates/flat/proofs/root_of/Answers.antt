-- `flat::root_of` meets its contract: the check passes, or its refusal is handed on. Assumes nothing.
use mathlib.Core.Path.{sym, ◌∙◌}
use borrow.Author.Rules.{rules}
use Rattle.std.proofs.lemmas.Result.{err_from_is_err_and}
use Rattle.flat.specs.Reading.{reading}
use Rattle.flat.proofs.Truths.{Fact, fact}
use Rattle.flat.proofs.Meaning.{check_passed}
use Rattle.flat.proofs.Roots.{root_read, some_node, root_refused}
use Rattle.flat.proofs.root_of.Goals as goal
use Rattle.flat.proofs.root_of.Goals.{In_ok-check_nodes}

pub returns-in_err-check_nodes : goal.returns-in_err-check_nodes
returns-in_err-check_nodes c =
    let p = err_from_is_err_and c.from_residual.result c.from_residual.ensures.1 in rw (p.1, p.2) (root_refused (reading _ _ _ _) (sym c.in_err-check_nodes.was ∙ c.check_nodes.ensures))

-- where the check passes
abbrev passed : In_ok-check_nodes → Fact
passed c = fact (check_passed (sym c.in_ok-check_nodes.was ∙ c.check_nodes.ensures))

pub bounds-kinds-0 : goal.bounds-kinds-0
bounds-kinds-0 c = search (rules, (some_node (passed (goal.at.bounds-kinds-0 c).In_ok-check_nodes).proof).0)

pub bounds-args-0 : goal.bounds-args-0
bounds-args-0 c = search (rules, (some_node (passed (goal.at.bounds-args-0 c).In_ok-check_nodes).proof).1)

pub returns : goal.returns
returns c = root_read (passed (goal.at.returns c).In_ok-check_nodes).proof
