-- `supertype_report::report_roots` meets its contract. Assumes nothing.
use mathlib.Core.Path.{ap, ◌∙◌}
use Rattle.std.proofs.lemmas.Result.{err_from_is_err_and}
use Rattle.std.specs.Prelude.{Ok}
use Rattle.flat.specs.Tree.{head_kind}
use Rattle.supertype_answer.proofs.Joins.{left_refused, right_refused, both_roots}
use Rattle.supertype_report.specs.Report.{types_report}
use Rattle.supertype_report.proofs.report_roots.Goals as goal

pub returns-in_err-l : goal.returns-in_err-l
unfolding types_report
returns-in_err-l c =
    let given = err_from_is_err_and c.from_residual.result c.from_residual.ensures.1 in
    left_refused (λ answer. answer) _ _ given c.in_err-l.was

pub returns-in_err-r : goal.returns-in_err-r
unfolding types_report
returns-in_err-r c =
    let given = err_from_is_err_and c.from_residual-in_err-r.result c.from_residual-in_err-r.ensures.1 in
    right_refused (λ answer. answer) _ _ given c.in_ok-l.was c.in_err-r.was

pub returns : goal.returns
unfolding head_kind types_report
returns c = ap Ok c.report_kinds.ensures ∙ both_roots (λ answer. answer) _ c.in_ok-l.was c.in_ok-r.was
